-- walks one after another
pub mod Runs
-- the search for the set that starts at a field finds it, or that there is none
pub mod Starts
-- turn by turn the walk meets the same and comes to the same end, and each turn leaves less to do
pub mod Machine
-- lists of visits: what holds of all, and of all but the last
pub mod Visits
-- what holds of each field holds of the whole walk; the last field of the table is met last
pub mod Lawful
-- a second walk that keeps to what the first met at each visit runs alike
pub mod Alike
-- every contract leaves one answer and one content of each lent buffer
pub mod OneAnswer
-- a turn does what `look_of` says of its spot
pub mod Looked
-- two walks with states of their own that agree at each field meet the same and both end
pub mod Paired

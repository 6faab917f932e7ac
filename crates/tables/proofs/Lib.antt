-- a word that is missing is 0, and a table's numbers have 16 bits
pub mod Missing
-- what a field is whose word says that it is a simple number; it keeps the rules
pub mod Simple
-- in an accepted table no resolution is without a mark, and no mark is broken
pub mod Marks
-- the loops over fields and sets find the lowest index that breaks a rule, or none
pub mod Searches
-- where each rule is kept nothing is refused, and rule a comes first
pub mod Chain
-- an accepted table keeps every rule: what reading and writing use of it
pub mod Accepted
-- every contract leaves one answer and one content of each lent buffer
pub mod OneAnswer

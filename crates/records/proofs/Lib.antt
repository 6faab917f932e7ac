-- bytes put into a buffer one after another: lengths, order, what it then holds
pub mod Putting
-- the words of a record: how large they are, and those of a number
pub mod Worth
-- which fields from a place on stand in no set, or are later fields of sets
pub mod Placed
-- a number or a gap that is read the quick way is the field that reading meets there
pub mod Quickly
-- counters noted once, at the end of a stretch: no field before its last one counts
pub mod Noting
-- a stretch of fields is as many turns that lead on, and leads to the same walk
pub mod Leading
-- after each turn the buffer holds the records of the readings made so far
pub mod Storing
-- the count in front of the records, and how many a buffer has room for
pub mod Counting
-- a built-in table is accepted and fills nothing
pub mod Known
-- a refusal that touches nothing leaves the padding run and the buffer as they were
pub mod Untouched
-- every contract leaves one answer and one content of each lent buffer
pub mod OneAnswer

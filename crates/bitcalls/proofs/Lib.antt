-- the answers that go by a VALUE or a COUNT
mod Values
-- a call by its name, by its arm of a match, and by its COUNT
mod Arms
-- a line by its fields
mod Fields
-- how long an answer is
mod Sizes
-- any list of calls: all that is printed, and that no answer waits for room forever
mod Stream

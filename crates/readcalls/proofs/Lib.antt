-- a padding run up to its last byte that is not A5
mod Touching
-- both ways through a payload come to the same
mod Same
-- a line by its fields
mod Fields
-- how long an answer is
mod Sizes
-- any list of calls: all that is printed, and that no answer waits for room forever
mod Stream
-- no reading has no line
pub mod Quiet

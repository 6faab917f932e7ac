-- a list from a place on, and values in place of the first ones of a list
mod Lists
-- where a part ends, and the parts from a place on
pub mod Cuts
-- the place of a name, word by word
mod Naming
-- digits one after the other, and when a text is a number
pub mod Spelling
-- what is stored, one value after the other, and when
pub mod Filling
-- what is printed is read back
pub mod Back
-- every contract leaves one answer and one content of each lent buffer
mod OneAnswer
-- what a call leaves in a buffer: the values that a text has, or nothing
pub mod Stored

-- the last arm of a match on a number knows that no arm before it has it
pub mod Arms
-- every contract leaves one answer and one content of each lent buffer
pub mod OneAnswer

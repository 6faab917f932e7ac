-- a value is offered where its size is below the limit of its kind
pub mod Within
-- what a record offers that is no text
pub mod Placed
-- every contract leaves one answer and one content of each lent buffer
pub mod OneAnswer
-- the code and the 64 bits that decoding tells of a number, handed back, are an offer of it
pub mod Back

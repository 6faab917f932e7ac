-- what a refusal carries, of at most three values
pub mod Carried
-- a walk that is printed turn by turn comes to the text of the whole decode
pub mod Walked
-- no line is longer than 130 bytes
pub mod Sizes
-- every contract leaves one answer and one content of each lent buffer
mod OneAnswer
-- a reading whose raw is none has text or bytes
pub mod Texts

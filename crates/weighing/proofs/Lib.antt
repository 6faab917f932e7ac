-- a value in a field of an accepted table gives no refusal but 2, 3, 10, 11 and 13
pub mod Given
-- every contract leaves one answer and one content of each lent buffer
pub mod OneAnswer

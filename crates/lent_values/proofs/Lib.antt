-- lent values stand at the places below their count
pub mod Turns
-- every contract leaves one answer and one content of each lent buffer
pub mod OneAnswer
-- what `encode` accepted is read back, and `decode` puts it into its run
pub mod CallsBack

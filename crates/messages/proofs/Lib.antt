pub mod Accepted
pub mod OneAnswer

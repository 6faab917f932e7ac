pub mod Names
pub mod Text
pub mod Answers

mod Ranges
pub mod Inverse
mod OneAnswer

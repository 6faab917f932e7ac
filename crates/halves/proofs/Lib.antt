mod Shifts
pub mod Masks
mod OneAnswer

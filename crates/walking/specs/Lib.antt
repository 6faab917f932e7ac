pub mod Runs
pub mod Walk
pub mod Turns
pub mod Looks

pub mod Parts
pub mod Numbers
pub mod Runs
pub mod Names

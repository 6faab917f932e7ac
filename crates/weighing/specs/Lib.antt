pub mod Refusals
pub mod Weigh

pub mod Sheet
pub mod Digits
pub mod Refusals

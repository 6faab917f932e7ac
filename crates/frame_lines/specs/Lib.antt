pub mod Lines
pub mod Decode

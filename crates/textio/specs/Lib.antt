pub mod Io
pub mod Run

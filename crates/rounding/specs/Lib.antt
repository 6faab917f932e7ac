pub mod Narrowing
pub mod Truncation
pub mod Closeness

pub mod Clauses
pub mod Groups
pub mod Filling
pub mod Decode
pub mod Steps
pub mod Demand3

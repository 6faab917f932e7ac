pub mod Clauses
pub mod Run
pub mod Steps

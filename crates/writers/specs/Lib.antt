pub mod Clauses
pub mod Writer

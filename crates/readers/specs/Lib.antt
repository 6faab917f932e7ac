pub mod Clauses
pub mod Reader

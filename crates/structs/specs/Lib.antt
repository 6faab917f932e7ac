pub mod Clauses
pub mod Structs

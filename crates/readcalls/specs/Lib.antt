pub mod Lines
pub mod Answers
pub mod Alike
pub mod Clauses

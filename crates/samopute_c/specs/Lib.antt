pub mod Clauses
pub mod Answers
pub mod Values
pub mod Checks
pub mod Decodes
pub mod Encodes

pub mod Decimals
pub mod Values
pub mod Records
pub mod Answers
pub mod Clauses

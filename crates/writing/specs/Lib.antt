pub mod Clauses
pub mod Ink
pub mod Encode
pub mod Strokes
pub mod Ones
pub mod ReadBack

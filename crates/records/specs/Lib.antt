pub mod Clauses
pub mod Layout
pub mod Into
pub mod Pgn
pub mod Puts
pub mod Stretches

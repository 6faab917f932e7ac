-- a run of a program, turn by turn
pub mod Turns

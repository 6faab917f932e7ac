pub mod Machine
pub mod Calls
pub mod Held
pub mod Passing
pub mod Steps
pub mod Program

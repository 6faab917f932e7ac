pub mod Bits
pub mod Refusals
pub mod Calls
pub mod Patch

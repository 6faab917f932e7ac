pub mod Payload
pub mod Refusals
pub mod Shapes
pub mod Taken
pub mod Content

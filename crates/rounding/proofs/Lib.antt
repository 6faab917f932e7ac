-- Rounding: to nearest, then by bits.
pub mod HalfEven
pub mod Packing
pub mod Fields
pub mod Nans
-- The functions' laws.
pub mod WholeNumbers
pub mod Signs
pub mod FewerDigits
pub mod WholePart
-- What is promised besides the contracts.
pub mod Laws
pub mod OneAnswer

-- the contract of each export is that of the call that it makes
pub mod OneAnswer

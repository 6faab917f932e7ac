-- a `&mut [T]` taken apart by its holder, and put together again
pub mod Unlocking
-- a `&mut [T]` lent on for a call, and had again after it
pub mod Lending
-- a value in a local's cell is a value in memory, and back
pub mod Lying
-- the tokens of two lifetimes cut for a call that needs both, and joined again
pub mod Meeting
-- one step for every call of a function over plain data
pub mod Asking
-- the two ends of a walk: all locals are there, and are given back
pub mod Locals
-- a struct behind a `&mut`, opened and closed
pub mod Behind
-- a function whose walk meets its clauses meets its contract
pub mod Walking
-- what a test that passed, or did not, says of its Bool
pub mod Tests

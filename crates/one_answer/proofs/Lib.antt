pub mod Fixes

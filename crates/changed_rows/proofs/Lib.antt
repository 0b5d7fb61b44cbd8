-- The proofs of this crate.
pub mod Names
pub mod Pushed
pub mod Counted
pub mod Members
pub mod Alike
pub mod Kept
pub mod Walked
pub mod Came
pub mod Patterns
pub mod PlainPatterns
pub mod GtidsKept

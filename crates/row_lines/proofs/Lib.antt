-- The proofs of this crate.
pub mod Bare
pub mod Digits
pub mod Kept
pub mod ShownNames
pub mod ShownText

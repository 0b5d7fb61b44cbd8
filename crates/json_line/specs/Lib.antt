-- The definitions that the contracts of this crate use.
pub mod Written
pub mod Filled
pub mod Writer
pub mod Digits

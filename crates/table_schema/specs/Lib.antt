-- The definitions that the contracts of this crate use.
pub mod Texts
pub mod Values
pub mod Types
pub mod Charsets
pub mod Schemas
pub mod Has
pub mod Fits
pub mod Completed
pub mod Lines
pub mod Files
pub mod Search

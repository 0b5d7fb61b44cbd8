-- The definitions that the contracts of this crate rest on.
pub mod EventTypes
pub mod StatusVars
pub mod OptionalMetadata
pub mod Constants
pub mod GroupNumbers
pub mod Flags

-- The definitions that the contracts of this crate rest on.
pub mod TableMap
pub mod TableMapWritten
pub mod Chunks
pub mod ColumnTypes
pub mod RawTypes
pub mod Lists
pub mod Variants
pub mod Fields
pub mod Keys
pub mod Charsets
pub mod Extracted
pub mod TableColumns
pub mod Steps
pub mod Workings
pub mod Lemmas

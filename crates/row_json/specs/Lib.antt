-- The definitions that the contracts of this crate use.
pub mod Charsets
pub mod Kinds
pub mod Times
pub mod Columns
pub mod Floats
pub mod Values
pub mod Wrote
pub mod Fields
pub mod Fits
pub mod LongLines
pub mod Documents
pub mod Workings
pub mod Faults
pub mod Rows
pub mod Shown
pub mod ShownRows

-- The definitions that the contracts of this program use.
pub mod Words

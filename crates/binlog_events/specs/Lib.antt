-- The definitions that the contracts of this crate rest on.
pub mod Crc32
pub mod Header
pub mod Version
pub mod Description
pub mod Events
pub mod Lemmas
pub mod Tables
pub mod Workings

-- The definitions that the contracts of this crate rest on.
pub mod Kept
pub mod Opened
pub mod StoredPlans
pub mod TableMaps

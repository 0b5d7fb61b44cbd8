-- The proofs of this crate.
pub mod Changed
pub mod Covers
pub mod Loop
pub mod Plans
pub mod Steps
pub mod SamePlan
pub mod PlanReads
pub mod AlikePlans
pub mod Nexts
pub mod Pairs
pub mod Items
pub mod Runs
pub mod Equality
pub mod NotPlain

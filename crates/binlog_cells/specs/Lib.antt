-- The definitions that the contracts of this crate use.
pub mod Cells
pub mod Forms
pub mod Pieces
pub mod LentCells
pub mod OldTimes
pub mod Equality
pub mod Lemmas

-- Proofs that several functions of this crate share.
pub mod Appending
pub mod Groups
pub mod Lossy
pub mod BitLists
pub mod Ambiguity
pub mod Sequences
pub mod Fractions
pub mod Known
pub mod Filled
pub mod ColumnLists

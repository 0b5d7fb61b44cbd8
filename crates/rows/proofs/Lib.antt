-- The proofs of this program.
pub mod SixWords

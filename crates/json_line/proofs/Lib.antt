-- The proofs of this crate.
mod Pieces
mod Blocks
mod Decimals
mod Runs

-- The definitions that the contracts of this crate use.
pub mod Times
pub mod TimeText
pub mod TimeCharacters
pub mod Decimals
pub mod DecimalGroups
pub mod DecimalMasks
pub mod DecimalReads
pub mod PackedDecimals
pub mod LentDecimals
pub mod DecimalLaws
pub mod DecimalOrder
pub mod DecimalText
pub mod Workings
pub mod Lemmas

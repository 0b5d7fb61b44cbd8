-- The proofs of this crate.
pub mod DecimalSteps
pub mod DigitCharacters
pub mod DecimalPacking
pub mod DecimalBytes
pub mod DecimalTexts
pub mod DecimalPrinting
pub mod DecimalPutting
pub mod DecimalShown
pub mod DecimalNumbers
pub mod DecimalRanges
pub mod DecimalSources
pub mod DecimalGrammar
pub mod DecimalOrders
pub mod InlineTexts
pub mod TimeTexts
pub mod LentDecimals
pub mod DecimalComparing

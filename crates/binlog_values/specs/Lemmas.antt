-- Proved consequences of the other definitions in `specs`. A reader of the contracts can skip them.
pub use Rattle.binlog_decimal.specs.Lemmas.DecimalGroups
pub use Rattle.binlog_decimal.specs.Lemmas.DecimalMasks
pub use Rattle.binlog_decimal.specs.Lemmas.PackedDecimals
pub use Rattle.binlog_decimal.specs.Lemmas.Places
pub mod JsonbValues
pub mod JsonDiffs
pub mod JsonEquality

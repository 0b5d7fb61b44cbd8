-- Proved consequences of the other definitions in `specs`. A reader of the contracts can skip them.
pub mod DecimalGroups
pub mod DecimalMasks
pub mod PackedDecimals
pub mod Places

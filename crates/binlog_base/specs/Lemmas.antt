-- What follows from the definitions in the folder above. All of it is proved, so a reader of the
-- contracts can skip it.
pub mod Format
pub mod Faults
pub mod Tables
pub mod ColumnTypes
pub mod Powers
pub mod TwosComplement
pub mod Coding
pub mod Fixed
pub mod Numbers
pub mod NumbersWritten
pub mod Strings
pub mod Bits
pub mod Equality
pub mod PackedTimes
pub mod Widths
pub mod Items

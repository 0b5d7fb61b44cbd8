-- Proofs that several functions of this crate share.
pub mod ColumnChunks
pub mod Arrays
pub mod KeyByKey
pub mod Strings
pub mod CharsetByCharset
pub mod ColumnWalk
pub mod StepByStep
pub mod StepsByHand
pub mod Bounds
pub mod TypeTables

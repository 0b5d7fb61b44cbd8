-- The definitions that the contracts of this crate use.
pub mod Outputs
pub mod Waits
pub mod Rows
pub mod Readings
pub mod FaultyRows
pub mod Lines
pub mod Failures
pub mod CountedFiles
pub mod NotedFiles
pub mod Runs
pub mod Arguments
pub mod Files
pub mod Printers
pub mod Lacking
pub mod Notes
pub mod Seen
pub mod Silent

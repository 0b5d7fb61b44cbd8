-- Proved consequences of the other definitions in `specs`. A reader of the contracts can skip them.
pub mod RowsEvent
pub use Rattle.binlog_cells.specs.Lemmas.Cells
pub mod Images
pub mod Rows
pub mod Equality
pub mod RowsEventWritten

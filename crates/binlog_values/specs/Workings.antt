-- What the code keeps, and how it reads by that. No layout is defined by it.
pub use Rattle.binlog_decimal.specs.Workings.DecimalPacking
pub mod JsonbVisits
pub mod JsonbStack

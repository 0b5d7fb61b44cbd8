-- The definitions that the contracts of this crate rest on. Those of single events are of
-- `binlog_events`, and those of what is kept between events of `binlog_kept`.
pub use Rattle.binlog_events.specs.Crc32
pub use Rattle.binlog_events.specs.Header
pub use Rattle.binlog_events.specs.Version
pub use Rattle.binlog_events.specs.Description
pub use Rattle.binlog_events.specs.Events
pub use Rattle.binlog_events.specs.Lemmas
pub use Rattle.binlog_kept.specs.Kept
pub use Rattle.binlog_kept.specs.StoredPlans
pub use Rattle.binlog_events.specs.Tables
pub use Rattle.binlog_kept.specs.TableMaps
pub mod Changes
pub mod LentChanges
pub mod Asked
pub mod LentEvents
pub mod CollectedChanges
pub mod Stream
pub mod SourceChanges
pub mod ItemsLeft
pub mod Checkpoints
pub mod Workings

-- What the code keeps, and how it reads by that. No layout is defined by it.
pub use Rattle.binlog_events.specs.Workings.TableBodies
pub use Rattle.binlog_events.specs.Workings.Stored
pub mod Glances
pub mod AskedGlances
pub mod Taken
pub mod KeptSteps
pub mod Walks
pub mod SourceWalks
pub mod Readers

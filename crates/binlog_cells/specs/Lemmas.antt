-- Proved consequences of the other definitions in `specs`. A reader of the contracts can skip them.
pub mod Cells
pub mod Forms
pub mod Equality

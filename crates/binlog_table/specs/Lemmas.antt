-- What follows from the definitions in the folder above. All of it is proved, so a reader of the
-- contracts can skip it.
pub mod TableMap
pub mod Chunks
pub mod Lists
pub mod Variants
pub mod TableMapWritten
pub mod TableColumns

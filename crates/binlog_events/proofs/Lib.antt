pub mod Remainders
pub mod CrcTables
pub mod Words
pub mod Reading

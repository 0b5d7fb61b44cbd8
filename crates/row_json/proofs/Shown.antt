-- What the JSON of a value shows.
pub mod Numerals
pub mod Fractions
pub mod Clocks
pub mod Instants
pub mod Latin1
pub mod Bytes
pub mod Floats
pub mod Numbers
pub mod Names
pub mod Signs
pub mod FromJson
pub mod ToJson
pub mod Values
pub mod Cells
pub mod Texts
pub mod Rows
pub mod Pairs

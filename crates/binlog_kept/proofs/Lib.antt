pub mod SameTable
pub mod Bytes
pub mod Places

-- What the code keeps, and what is written by that. No text is defined by it.
pub mod Walked
pub mod Drafts
pub mod Places

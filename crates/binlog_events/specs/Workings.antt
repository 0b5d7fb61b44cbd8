-- What the code keeps, and how it reads by that. No layout is defined by it.
pub mod TableBodies
pub mod Stored

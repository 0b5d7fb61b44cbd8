-- What the code keeps, and how it reads by that. No layout is defined by it.
pub mod KeysLeft
pub mod CharsetsLeft
pub mod ColumnsLeft

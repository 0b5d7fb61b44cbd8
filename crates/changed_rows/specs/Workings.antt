-- What the code keeps as it walks. The other definitions of this crate don't cite it.
pub mod Walked
pub mod Came
pub mod Walks

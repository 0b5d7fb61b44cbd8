-- What the code keeps, and how it reads by that. No layout is defined by it.
pub mod Plans
pub mod After
pub mod State

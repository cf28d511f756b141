pub mod Ring
pub mod Listening
pub mod Demand3
pub mod Marks
pub mod Passing

pub mod Layouts
pub mod Degrees

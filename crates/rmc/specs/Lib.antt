pub mod Layouts
pub mod Stored

pub mod Rings
pub mod Windows
pub mod Starts
pub mod Steps
pub mod Demand3
pub mod Marking

pub mod Kit
pub mod Steps
pub mod Outcomes

pub mod Counted
pub mod Output
pub mod Listened
pub mod Answer

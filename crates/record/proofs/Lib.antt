pub mod Signs
pub mod Refusals
pub mod Answers

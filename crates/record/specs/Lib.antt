pub mod Sign
pub mod Record
pub mod Refusal
pub mod Answers

mod Same
pub mod Lean
pub mod Beside
pub mod Stored

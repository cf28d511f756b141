pub mod Seconds
pub mod Heard
pub mod Rows
pub mod Afresh
pub mod Runs
pub mod Cases

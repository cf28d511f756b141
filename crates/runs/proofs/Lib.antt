pub mod Seconds
pub mod Grown
pub mod Maximal
pub mod Possible
pub mod LastMinute
pub mod Cases
pub mod Runs

pub mod Places
pub mod Stores
pub mod Weekday
pub mod Validated
pub mod Admitted

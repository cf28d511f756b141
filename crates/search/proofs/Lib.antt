pub mod Places
pub mod Demand1

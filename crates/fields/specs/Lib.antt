pub mod Signs
pub mod Dates

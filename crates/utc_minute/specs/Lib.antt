pub mod Minute
pub mod Promise
pub mod Known

pub mod Good
pub mod Promise
pub mod Known

pub mod Rows
pub mod Calls
pub mod Racks
pub mod Cases
pub mod RackRows

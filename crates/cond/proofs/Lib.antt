pub mod Kit
pub mod Tests
pub mod Parts

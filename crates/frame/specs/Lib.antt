pub mod Layouts
pub mod Tens

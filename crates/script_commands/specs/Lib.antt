pub mod Exports
pub mod Scripts
pub mod SerialReports

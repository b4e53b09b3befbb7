pub mod Exporting
pub mod Reading
pub mod Refused
pub mod Serially

pub mod Below
pub mod Columns
pub mod Counted
pub mod Functions
pub mod Messages
pub mod Events
pub mod Opened
pub mod Text

pub mod Data
pub mod Escaped
pub mod Text

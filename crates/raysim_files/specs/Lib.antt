pub mod Clashes
pub mod Errors
pub mod Paths

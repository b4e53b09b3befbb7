pub mod Edges
pub mod Births
pub mod Attempts
pub mod Entries
pub mod Text

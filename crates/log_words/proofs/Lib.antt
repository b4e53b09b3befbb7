pub mod Indexed
pub mod Making

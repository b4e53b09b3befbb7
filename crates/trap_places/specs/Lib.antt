pub mod Excerpts
pub mod Operands
pub mod Text

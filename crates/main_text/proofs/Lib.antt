pub mod Trapping
pub mod Writing

pub mod Sentences
pub mod Writing

pub mod Chaining
pub mod Sentences
pub mod Writing

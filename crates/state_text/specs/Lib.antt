pub mod Below
pub mod Tasks
pub mod Copies
pub mod Nodes
pub mod Workers
pub mod Objects
pub mod Text

pub mod Dying
pub mod Counted
pub mod Made
pub mod Nodes
pub mod Room

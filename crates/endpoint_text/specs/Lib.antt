pub mod Lists
pub mod Told
pub mod Deaths
pub mod Present
pub mod Workers
pub mod Nodes
pub mod Text

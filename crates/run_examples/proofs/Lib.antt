pub mod Planned
pub mod Ruled

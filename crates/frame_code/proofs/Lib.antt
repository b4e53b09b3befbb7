pub mod Places
pub mod Sizes
pub mod Rows
pub mod Patches
pub mod Blocks
pub mod Marks
pub mod Weighing

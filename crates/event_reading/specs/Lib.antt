pub mod Known
pub mod Rows
pub mod Kept
pub mod Files

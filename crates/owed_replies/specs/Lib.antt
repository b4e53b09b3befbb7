pub mod Kept
pub mod Law

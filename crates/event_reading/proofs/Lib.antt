pub mod Bytes
pub mod Going
pub mod Saying
pub mod Reading
mod Keeping

pub mod Chunked
pub mod Shared

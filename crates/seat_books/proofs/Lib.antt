pub mod Watched
pub mod Splitting
pub mod Closing

pub mod Growth
pub mod Frames
pub mod Jobs
pub mod Pieces

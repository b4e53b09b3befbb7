pub mod Serial
pub mod Begins
pub mod Json
pub mod Law

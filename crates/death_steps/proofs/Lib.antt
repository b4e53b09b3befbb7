pub mod Losing
pub mod Moves

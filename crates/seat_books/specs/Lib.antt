pub mod Tallies
pub mod Holdings
pub mod Seats

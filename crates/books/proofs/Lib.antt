pub mod SeatLaws
pub mod Committed

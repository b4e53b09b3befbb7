pub mod SeatTotals
pub mod Laws
pub mod Lines
pub mod Summing

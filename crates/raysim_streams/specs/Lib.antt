pub mod Refusals
pub mod Settled

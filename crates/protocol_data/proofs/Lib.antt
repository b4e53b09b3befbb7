pub mod Bounds
pub mod Copying
pub mod Going
pub mod Idle
pub mod Leasing
pub mod Noting
pub mod Queueing
pub mod Recency
pub mod Searches
pub mod Serials
pub mod Shelving
pub use Rattle.event_log.proofs as of_event_log
pub use Rattle.event_log.proofs.of_meaning as of_meaning

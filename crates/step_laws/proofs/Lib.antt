pub mod Places
pub mod Lists
pub mod Delivered
pub mod Openings
pub mod Counts
pub mod Later
pub mod MarkLaws
pub mod JobLaws
pub mod Taken
pub mod Spends
pub mod Asks
pub mod Contents
pub mod Notices
pub mod Hearing
pub mod Committing
pub mod OneOpens
pub mod Releasing
pub use Rattle.protocol.proofs.of_event_log as of_event_log

pub mod Texts
pub mod Main
pub mod Sets
pub mod Attempts
pub mod Objects
pub mod Refusals
pub use Rattle.event_log.specs as of_event_log

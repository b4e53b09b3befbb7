pub mod Law
pub mod Known
pub use Rattle.event_log.specs as of_event_log

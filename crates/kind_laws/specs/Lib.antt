pub mod Law
pub mod Mains
pub use Rattle.meaning_laws.specs.of_event_log as of_event_log

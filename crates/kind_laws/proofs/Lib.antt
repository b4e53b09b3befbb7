pub mod Numbers
pub mod Typed
pub mod Laws
pub mod Mains
pub use Rattle.meaning_laws.proofs.of_event_log as of_event_log

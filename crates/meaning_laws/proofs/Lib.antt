pub mod Traces
pub mod Lacks
pub mod Good
pub mod Births
pub mod Steps
pub mod LogLaw
pub mod Headline
pub mod Knowing
pub use Rattle.event_log.proofs as of_event_log

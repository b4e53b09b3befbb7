mod Holders
mod Plans
mod Stops
pub use Rattle.protocol_data.proofs.of_event_log as of_event_log

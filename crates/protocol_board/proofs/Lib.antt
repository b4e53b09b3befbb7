mod Jobs
pub mod Own
mod Playing
mod Turning
pub use Rattle.protocol_core.proofs.of_count_laws as of_count_laws

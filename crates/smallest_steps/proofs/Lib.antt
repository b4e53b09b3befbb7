pub mod Known
pub mod Untouched
pub mod Smallest
pub mod Over
pub mod Needing
pub mod Contents
pub mod Moves
pub mod Plain
pub mod SlotMoves
pub mod NodeMoves
pub use Rattle.step_laws.proofs.of_event_log as of_event_log
pub use Rattle.step_laws.proofs as of_step_laws

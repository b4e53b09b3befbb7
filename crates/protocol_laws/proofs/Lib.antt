pub mod Premises
pub mod Tests
pub mod StaysOut
pub mod JobsOut
pub mod Refusals
pub mod Events
pub mod Laws
pub mod Pace
pub mod Given
pub mod Shown
pub mod Plans
pub use Rattle.holding_steps.proofs as of_holding_steps
pub use Rattle.holding_steps.proofs.of_step_laws as of_step_laws
pub use Rattle.protocol_legal.proofs as of_protocol_legal
pub use Rattle.protocol_owed.proofs as of_protocol_owed
pub use Rattle.protocol_owed.proofs.of_smallest_steps as of_smallest_steps

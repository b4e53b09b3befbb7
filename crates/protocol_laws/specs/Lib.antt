pub mod Sound
pub mod Coming
pub mod Law
pub mod Pace
pub mod Given
pub mod Shown
pub mod Plans
pub use Rattle.holding_steps.specs.of_step_laws as of_step_laws
pub use Rattle.holding_steps.specs.of_protocol as of_protocol
pub use Rattle.protocol_legal.specs as of_protocol_legal
pub use Rattle.protocol_owed.specs as of_protocol_owed
pub use Rattle.protocol_owed.specs.of_smallest_steps as of_smallest_steps

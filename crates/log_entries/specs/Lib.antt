pub mod Refusals
pub mod Texts
pub use Rattle.held.specs as of_held
pub use Rattle.held.specs.of_ids as of_ids
pub use Rattle.held.specs.of_task_spec as of_task_spec
pub use Rattle.held.specs.of_values as of_values

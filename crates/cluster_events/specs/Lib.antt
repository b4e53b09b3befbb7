pub mod Kept
pub mod Losses
pub mod Told
pub use Rattle.worker_steps.specs.of_contexts as of_contexts

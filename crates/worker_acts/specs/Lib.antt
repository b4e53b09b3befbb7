pub mod Acts
pub mod Concerned
pub use Rattle.worker_steps.specs.of_contexts as of_contexts

pub mod Concerned
pub mod Looking
pub use Rattle.worker_tables.specs.of_contexts as of_contexts

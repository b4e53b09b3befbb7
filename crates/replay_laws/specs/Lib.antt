pub mod Replaying
pub use Rattle.migration.specs as of_migration
pub use Rattle.migration.specs.of_run_paths as of_run_paths
pub use Rattle.migration.specs.of_seats as of_seats

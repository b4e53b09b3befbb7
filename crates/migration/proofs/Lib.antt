pub mod Migrating
pub mod Alike
pub use Rattle.seats.proofs.of_run_paths as of_run_paths
pub use Rattle.seats.proofs as of_seats

pub mod Codes
pub mod Counted
mod Books
mod Came
mod Crosses
pub mod Few
mod Given
mod Held
pub mod Jobs
mod Limited
mod Outside
mod Owed
mod Passing
mod Planned
mod Ruled
mod Seen
pub mod Seated
mod Sizes
mod Standing
pub use Rattle.job_laws.proofs as of_job_laws
pub use Rattle.run_paths.proofs.of_count_laws as of_count_laws
pub use Rattle.run_paths.proofs as of_run_paths

pub mod Handing
pub mod Replaying
pub mod Steps
pub use Rattle.migration.proofs as of_migration

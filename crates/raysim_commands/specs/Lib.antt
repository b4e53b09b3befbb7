pub mod Migrations
pub mod ThreadReports
pub use Rattle.replay_laws.specs.of_seats as of_seats

pub mod Counted
pub mod Ends
pub mod Held
pub mod Outside
pub mod Owed
pub mod Ruled
pub mod Seated
pub mod Turns
pub mod Views
pub use Rattle.run_paths.specs.of_count_laws as of_count_laws
pub use Rattle.run_paths.specs.of_protocol_board as of_protocol_board
pub use Rattle.run_paths.specs as of_run_paths

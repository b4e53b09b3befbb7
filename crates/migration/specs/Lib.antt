pub mod Migration
pub use Rattle.seats.specs.of_protocol_board as of_protocol_board
pub use Rattle.seats.specs.of_run_paths as of_run_paths
pub use Rattle.seats.specs as of_seats

pub mod Handing
pub mod Paths
pub use Rattle.protocol_board.specs.of_count_laws as of_count_laws
pub use Rattle.protocol_board.specs as of_protocol_board

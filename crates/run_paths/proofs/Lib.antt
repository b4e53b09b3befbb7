pub mod Handing
pub mod Opening
pub mod Paths
pub use Rattle.protocol_board.proofs.of_count_laws as of_count_laws
pub use Rattle.protocol_board.proofs as of_protocol_board

pub mod Replays
pub use Rattle.protocol_board.specs as of_protocol_board

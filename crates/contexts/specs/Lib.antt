pub mod Emptied
pub use Rattle.protocol.specs as of_protocol
pub use Rattle.protocol_data.specs as of_protocol_data

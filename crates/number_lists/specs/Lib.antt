pub use Rattle.protocol.specs as of_protocol

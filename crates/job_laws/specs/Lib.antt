pub mod Standing
pub use Rattle.protocol_core.specs as of_protocol_core
pub use Rattle.protocol_laws.specs as of_protocol_laws

pub mod Discipline
pub mod Law
pub mod Told
pub mod Owing
pub mod Slots
pub mod Examples
pub mod Asks
pub use Rattle.protocol_laws.specs as of_protocol_laws
pub use Rattle.protocol_laws.specs.of_protocol_legal as of_protocol_legal

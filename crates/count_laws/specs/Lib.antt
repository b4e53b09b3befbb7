pub mod Counts
pub mod Law
pub use Rattle.owed_laws.specs.of_protocol_laws as of_protocol_laws
pub use Rattle.owed_laws.specs.of_protocol_legal as of_protocol_legal

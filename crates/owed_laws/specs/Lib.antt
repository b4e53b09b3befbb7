pub mod Law
pub mod Examples
pub use Rattle.owed_asks.specs.of_lease_discipline as of_lease_discipline
pub use Rattle.owed_asks.specs.of_protocol_laws as of_protocol_laws
pub use Rattle.owed_asks.specs.of_protocol_legal as of_protocol_legal

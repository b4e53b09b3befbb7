pub mod Routes
pub mod Law
pub use Rattle.lease_discipline.specs as of_lease_discipline
pub use Rattle.lease_discipline.specs.of_protocol_laws as of_protocol_laws
pub use Rattle.lease_discipline.specs.of_protocol_legal as of_protocol_legal

pub mod Added
pub mod Events
pub mod Laws
pub mod Numbers
pub mod Reached
pub use Rattle.owed_laws.proofs.of_lease_discipline as of_lease_discipline
pub use Rattle.owed_laws.proofs.of_owed_replies as of_owed_replies
pub use Rattle.owed_laws.proofs.of_protocol_laws as of_protocol_laws

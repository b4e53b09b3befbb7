pub mod Routing
pub mod RouteEvents
pub mod Splits
pub mod Laws
pub mod SlotUsers
pub mod Users
pub mod Waiting
pub mod UserEvents
pub mod RightSlots
pub mod WaitsTell
pub mod Needs
pub mod AskNumbers
pub use Rattle.lease_discipline.proofs.of_holding_steps as of_holding_steps
pub use Rattle.lease_discipline.proofs as of_lease_discipline
pub use Rattle.lease_discipline.proofs.of_protocol_laws as of_protocol_laws
pub use Rattle.lease_discipline.proofs.of_protocol_legal as of_protocol_legal

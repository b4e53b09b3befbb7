pub mod Tame
pub mod Moves
pub mod Follows
pub mod Nodes
pub mod Theres
pub mod Heres
pub mod Own
pub mod Events
pub mod Opening
pub mod Laws
pub mod Told
pub mod Turns
pub mod TurnEvents
pub mod SlotLaw
pub mod Judged
pub mod Asking
pub mod AskEvents
pub mod AskLaw
pub mod Begins
pub use Rattle.protocol_laws.proofs.of_holding_steps as of_holding_steps
pub use Rattle.protocol_laws.proofs as of_protocol_laws
pub use Rattle.protocol_laws.proofs.of_protocol_legal as of_protocol_legal

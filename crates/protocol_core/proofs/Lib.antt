mod Adding
mod Cursors
mod Jobs
mod Kept
mod Meant
mod Paid
mod Shown
pub mod Apart
pub mod Pace
pub use Rattle.count_laws.proofs as of_count_laws
pub use Rattle.count_laws.proofs.of_lease_discipline as of_lease_discipline
pub use Rattle.count_laws.proofs.of_owed_replies as of_owed_replies
pub use Rattle.count_laws.proofs.of_protocol_laws as of_protocol_laws

pub mod Judged
pub mod Paid
pub mod Unreleased
pub mod OwnNeeds
pub mod OwnWaits
pub mod NewWaits
pub mod StoreMoves
pub mod Senders
pub mod MadeCopies
pub mod CommitCopies
pub mod Made
pub mod StoreEvents
pub mod KeptCopies
pub mod HoldMoves
pub mod Speaking
pub mod HoldCommits
pub mod HoldFacts
pub mod HoldEvents
pub mod HoldHappens
pub mod HoldCases
pub mod HoldRuns
pub mod Reports
pub use Rattle.owed_asks.proofs.of_lease_discipline as of_lease_discipline
pub use Rattle.owed_replies.proofs as of_owed_replies
pub use Rattle.owed_asks.proofs.of_protocol_laws as of_protocol_laws

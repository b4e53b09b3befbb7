-- What a run on the core is, passed on to the crates above, which name no core.
pub use Rattle.protocol_core.specs.Clusters.{IsCluster, Size}
pub use Rattle.protocol_core.specs.States.{IsLegalRun, IsReached, IsReachedRun, IsSoundRun, RunState, beside, first_state}
pub use Rattle.protocol_core.specs.Limits.{Limits}
pub use Rattle.protocol_core.specs.Meant.{IsSoundLog}
pub use Rattle.protocol_core.specs.Owed.{Pays}
pub use Rattle.protocol_core.specs.Own.{GivesOwn, IsOwn}
pub use Rattle.protocol_core.specs.of_protocol_laws.Given.{IsOfLog}
pub use Rattle.protocol_core.specs.Steps.{Accepts, Answers, AnswersAsShown, Applies, Follows, GivesJob, GivesThat, IsApplied, IsHanded, IsHandedFor, IsOut, Refuses, Reply, Tells, reply_of}
pub use Rattle.segment.specs.Pieces.{outcomes_in}
pub use Rattle.protocol_core.specs.contracts.cores.Core as Core

-- What a run's state has, how it begins, and which states are legal, reached and sound.
use Rattle.std.specs.Prelude.{◌≡◌, ◌<◌, ◌≤◌, ℕ, Bool, false, List, []}
use Rattle.meaning.specs.Syntax.{Script}
use Rattle.script_check.specs.Scripts.{IsWellTyped}
use Rattle.event_log.specs.Entries.{Entry}
use Rattle.event_log.specs.Rules.{Setting}
use Rattle.event_log.specs.Legal.{Legal, opening}
use Rattle.protocol.specs.Messages.{Envelope, receiver_in}
use Rattle.protocol.specs.Cluster.{ClusterState, first_whole}
use Rattle.protocol_laws.specs.Sound.{IsSound}
use Rattle.protocol_owed.specs.Runs.{Running}
pub use Rattle.count_laws.specs.Law.{IsReached}

-- what the log is read beside: the script, how many nodes there were at first, and the messages that were sent
abbrev pub beside : Script → ℕ → List Envelope → Setting
beside script nodes network = record { script = script; nodes = nodes; receiver = receiver_in network }

-- the log is legal beside some network
abbrev pub IsLegal : Script → ℕ → List Entry → Type 0
IsLegal script nodes log = (network : List Envelope) × Legal (beside script nodes network) log

-- the log, the workers, nodes and messages, how many nodes there were at first, and whether an event found no memory
pub record RunState : Type 0 where
  pub log : List Entry
  pub whole : ClusterState
  pub first_nodes : ℕ
  pub is_halted : Bool

-- a run that begins, on so many nodes with so many slots each
abbrev pub first_state : ℕ → ℕ → RunState
first_state nodes slots = record { log = opening; whole = first_whole nodes slots; first_nodes = nodes; is_halted = false }

-- the log is legal beside the messages that the run sent; once an event found no memory, beside some
pub record IsLegalRun (script : Script) (c : RunState) : Type 0 where
  pub own : c.is_halted ≡ false → Legal (beside script c.first_nodes c.whole.network) c.log
  pub some : IsLegal script c.first_nodes c.log

-- workers, nodes, messages and log of a state
abbrev pub run_of : RunState → Running
run_of c = record { whole = c.whole; log = c.log }

-- a run that was reached from its beginning, event by event, has this log; and these workers, nodes and messages, unless an event found no memory
pub record IsReachedRun (script : Script) (c : RunState) : Type 0 where
  pub slots : ℕ
  pub some : 1 ≤ slots
  pub run : Running
  pub reached : IsReached (beside script c.first_nodes []) slots run
  pub log : run.log ≡ c.log
  pub whole : c.is_halted ≡ false → run.whole ≡ c.whole

-- the script is well typed, there are from 1 to 64 nodes at first, the log is legal, and the run was reached; unless an event found no memory, it is sound
pub record IsSoundRun (script : Script) (c : RunState) : Type 0 where
  pub typed : IsWellTyped script
  pub nodes : 0 < c.first_nodes
  pub few : c.first_nodes ≤ 64
  pub legal : IsLegalRun script c
  pub reached : IsReachedRun script c
  pub sound : c.is_halted ≡ false → IsSound (beside script c.first_nodes []) c.log c.whole

-- A run that came of events replays by its recorded history to itself.
use Rattle.std.specs.Prelude.{◌≡◌, ◌<◌, ◌≤◌, ℕ, false, List, [], length}
use Rattle.meaning.specs.Mains.{KeepsMainApart}
use Rattle.meaning.specs.Syntax.{Script}
use Rattle.event_log.specs.Entries.{Entry}
use Rattle.event_files.specs.LogHistory.{recorded_in}
use Rattle.migration.specs.of_protocol_board.Cores.{RunState, first_state}
use Rattle.migration.specs.of_protocol_board.Replays.{Play, PlaysHistory}
use Rattle.migration.specs.of_run_paths.Handing.{HandsInOnce}
use Rattle.migration.specs.of_run_paths.Paths.{Comes}

-- a replay that begins on a cluster of so many nodes with so many slots each
pub record IsFirst (nodes slots : ℕ) (p : Play) : Type 0 where
  pub run : p.run ≡ first_state nodes slots
  pub jobs : p.jobs ≡ []
  pub applied : p.applied ≡ 0

-- a run that came of events on such a cluster: each handed in what is true of its job, and by the log each job was handed in once
pub record CameSo (script : Script) (nodes slots : ℕ) (now : RunState) : Type 0 where
  pub some : 0 < nodes
  pub comes : Comes script (first_state nodes slots) now
  pub once : HandsInOnce now.log

-- where no function of the script calls main and none but main prints: the history of a run that came of events, of which none found no memory, if it has
-- at most 100,000 of them, replays to that run
abbrev pub RunsReplay : Type 0
RunsReplay =
    (script : Script) → KeepsMainApart script → (nodes slots : ℕ) (now : RunState) → CameSo script nodes slots now → now.is_halted ≡ false →
    (log : List Entry) → log ≡ now.log → length (recorded_in log) ≤ 100000 → (first : Play) → IsFirst nodes slots first →
    (again : Play) × PlaysHistory script (recorded_in log) first again × (again.run ≡ now)

-- and to no other
abbrev pub RunsReplayToThemselves : Type 0
RunsReplayToThemselves =
    (script : Script) → KeepsMainApart script → (nodes slots : ℕ) (now : RunState) → CameSo script nodes slots now → now.is_halted ≡ false →
    (log : List Entry) → log ≡ now.log → length (recorded_in log) ≤ 100000 → (first again : Play) → IsFirst nodes slots first →
    PlaysHistory script (recorded_in log) first again → again.run ≡ now

-- also where an event found no memory the history replays, and whatever comes of it has the same log
abbrev pub LogsReplay : Type 0
LogsReplay =
    (script : Script) → KeepsMainApart script → (nodes slots : ℕ) (now : RunState) → CameSo script nodes slots now →
    (log : List Entry) → log ≡ now.log → length (recorded_in log) ≤ 100000 → (first : Play) → IsFirst nodes slots first →
    ((again : Play) × PlaysHistory script (recorded_in log) first again)
    × ((again : Play) → PlaysHistory script (recorded_in log) first again → again.run.log ≡ now.log)

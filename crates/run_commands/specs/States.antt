-- What `state` writes of a run behind one of its events.
use Rattle.std.specs.Prelude.{◌≡◌, ℕ, Bool, List, Option, map, take}
use Rattle.std.specs.List.{flat_map}
use Rattle.std.specs.Io.KnownBytes.{Appends}
use Rattle.meaning.specs.Syntax.{Script}
use Rattle.event_files.specs.declared.event_file.EventFile.{EventFile}
use Rattle.event_files.specs.declared.line.Line.{Line}
use Rattle.event_files.specs.declared.line.Line.TheVariants as lines
use Rattle.event_log.specs.Entries.{Entry, Event}
use Rattle.report_text.specs.of_report_lines.Main.{status_of}
use Rattle.fault_runs.specs.of_protocol_board.Cores.{IsSoundLog, RunState, Size}
use Rattle.fault_runs.specs.of_protocol_board.Replays.{Play}
use Rattle.fault_lists.specs.Lists.{event_in}
use Rattle.fault_runs.specs.Replays.{EndsSo}
use Rattle.state_text.specs.Text.{event_count, state_text}
use Rattle.script_commands.specs.Scripts.{IsScript}
use Rattle.run_commands.specs.SimReports.{AreEvents, IsReplayed}

abbrev pub event_line : Event → Line
event_line e = lines.Event e

-- the first so many events of a log, as lines
abbrev pub first_events : ℕ → List Entry → List Line
first_events at log = map event_line (take at (flat_map event_in log))

-- the lines make a run of the script on the cluster; the first so many of its events, played on a run that begins anew, make another; and the text
-- tells what is alive in that
pub record IsStateOf (script : Script) (size : Size) (at : ℕ) (says : EventFile) (text : List ℕ) (status : ℕ) : Type 0 where
  pub play : Play
  pub replayed : IsReplayed script size says play
  pub again : Play
  pub is_stopped : Bool
  pub played : EndsSo script size (first_events at play.run.log) again is_stopped
  pub meant : IsSoundLog script again.run
  pub told : text ≡ state_text again.run.log again.run.whole (event_count play.run.log)
  pub status_is : status ≡ status_of again.run.log

-- the texts are a script and an event file, and the state was written
pub record IsStateTold (size : Size) (at : ℕ) (text events : List ℕ) (status : ℕ) (before after : Option (List ℕ)) : Type 0 where
  pub script : Script
  pub says : EventFile
  pub numbers : List ℕ
  pub state : List ℕ
  pub is_script : IsScript text script
  pub are_events : AreEvents events says numbers
  pub told : IsStateOf script size at says state status
  pub written : Appends before after state

-- a beginning of it was written
pub record IsStateBegun (size : Size) (at : ℕ) (text events : List ℕ) (before after : Option (List ℕ)) : Type 0 where
  pub script : Script
  pub says : EventFile
  pub numbers : List ℕ
  pub state : List ℕ
  pub status : ℕ
  pub is_script : IsScript text script
  pub are_events : AreEvents events says numbers
  pub told : IsStateOf script size at says state status
  pub count : ℕ
  pub written : Appends before after (take count state)

-- ---- on the way

-- what is alive in a run as it is, beside so many events in all, and the status of main's end
abbrev pub IsStateNow : RunState → ℕ → List ℕ → ℕ → Type 0
IsStateNow run all text status = (text ≡ state_text run.log run.whole all) × (status ≡ status_of run.log)

-- the same behind the event of that number of a log, whose events are played once more
pub record IsBehind (script : Script) (size : Size) (at : ℕ) (log : List Entry) (text : List ℕ) (status : ℕ) : Type 0 where
  pub again : Play
  pub is_stopped : Bool
  pub played : EndsSo script size (first_events at log) again is_stopped
  pub meant : IsSoundLog script again.run
  pub told : IsStateNow again.run (event_count log) text status

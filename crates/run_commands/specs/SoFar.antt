-- What is written of a run up to where it stops.
use Rattle.std.specs.Prelude.{◌≡◌, ◌⊎◌, ℕ, Bool, true, false, List, []}
use Rattle.meaning.specs.Syntax.{Script}
use Rattle.event_files.specs.declared.event_file.EventFile.{EventFile}
use Rattle.report_text.specs.of_report_lines.Main.{status_of}
use Rattle.fault_runs.specs.of_protocol_board.Cores.{IsSoundLog, RunState, Size}
use Rattle.fault_runs.specs.of_protocol_board.declared.stopped.ReplayStop.{ReplayStop}
use Rattle.fault_runs.specs.of_protocol_board.declared.stopped.ReplayStop.TheVariants as stops
use Rattle.log_entries.specs.declared.refusal.Refusal.{Refusal}
use Rattle.fault_runs.specs.of_protocol_board.Drives.{Course, EndsSo, StopsSo}
use Rattle.fault_runs.specs.of_protocol_board.Replays.{FileStops, Play, PlaysFile, is_no_memory}
use Rattle.raysim_streams.specs.declared.CommandRefusal.{CommandRefusal}
use Rattle.raysim_streams.specs.declared.CommandRefusal.TheVariants.{At, NoMemory, Stopped as Stops, BadLine, WrongJob, Failed}
use Rattle.run_commands.specs.declared.form.Form.{Form}
use Rattle.run_commands.specs.Reports.{IsAsSerialIn, IsReportIn, account_of}
use Rattle.run_commands.specs.RunReports.{first_run}
use Rattle.script_commands.specs.Scripts.{IsNoScriptFor, IsScript}
use Rattle.run_commands.specs.SimReports.{AreEvents, IsBadLine, first_play, lines_in_file}

-- whether it was want of memory that stopped a replay
abbrev pub replay_lacks_memory : ReplayStop → Bool
replay_lacks_memory stops.NoMemory = true
replay_lacks_memory stops.TooLong = false
replay_lacks_memory stops.WrongJob = false

-- it was driven until nothing was left to do, or to where it stops; want of memory, which may come anywhere, is no such stop
abbrev pub IsDriven : Script → Course → Course → Type 0
IsDriven script before after =
    EndsSo script before after ⊎ ((refusal : Refusal) × (is_no_memory refusal ≡ false) × StopsSo script before after refusal)

-- all that the file says was played, or up to where the replay stops, alike
abbrev pub IsPlayed : Script → EventFile → Play → Play → Type 0
IsPlayed script says before after =
    PlaysFile script says before after ⊎ ((stopped : ReplayStop) × (replay_lacks_memory stopped ≡ false) × FileStops script says before after stopped)

-- what is written of a run of the script up to there, the status of main's end there, and what its log means
pub record IsRunSoFar (script : Script) (size : Size) (form : Form) (report : List ℕ) (status : ℕ) : Type 0 where
  pub course : Course
  pub driven : IsDriven script (first_run size) course
  -- each event found memory, so that its tables are those to which its log led
  pub goes_on : course.run.is_halted ≡ false
  pub meant : IsSoundLog script course.run
  pub told : IsReportIn form (account_of course.run course.sent []) report
  pub status_is : status ≡ status_of course.run.log

-- the same of a replay of what the file says in lines of these numbers
pub record IsReplaySoFar (script : Script) (size : Size) (form : Form) (says : EventFile) (numbers report : List ℕ) (status : ℕ) : Type 0 where
  pub play : Play
  pub played : IsPlayed script says (first_play size) play
  -- each event found memory, so that its tables are those to which its log led
  pub goes_on : play.run.is_halted ≡ false
  pub meant : IsSoundLog script play.run
  pub told : IsReportIn form (account_of play.run play.sent (lines_in_file numbers play.lines)) report
  pub status_is : status ≡ status_of play.run.log

-- the text is a script, of whose run that is written, and it begins as what `serial` writes of that script
pub record IsRunToldOf (size : Size) (form : Form) (text report : List ℕ) (status : ℕ) : Type 0 where
  pub script : Script
  pub is_script : IsScript text script
  pub so_far : IsRunSoFar script size form report status
  pub as_serial : IsAsSerialIn form script so_far.course.run.log report status

-- the same of a replay of these events, which are an event file
pub record IsReplayToldOf (size : Size) (form : Form) (text events report : List ℕ) (status : ℕ) : Type 0 where
  pub script : Script
  pub says : EventFile
  pub numbers : List ℕ
  pub is_script : IsScript text script
  pub are_events : AreEvents events says numbers
  pub so_far : IsReplaySoFar script size form says numbers report status
  pub as_serial : IsAsSerialIn form script so_far.play.run.log report status

-- why nothing is told of a replay of these events on a run of what the text is a script of: the text is none, and the refusal tells the error that says
-- so; it is one, and that line is the first of the events that is none of an event file; or there was no memory
abbrev pub ExplainsTexts : List ℕ → List ℕ → CommandRefusal → Type 0
ExplainsTexts text events (At code span) = IsNoScriptFor text (At code span)
ExplainsTexts text events NoMemory = Unit {0}
ExplainsTexts text events (BadLine n) = IsBadLine n text events
ExplainsTexts text events (Stops code) = ⊥
ExplainsTexts text events (WrongJob n) = ⊥
ExplainsTexts text events (Failed failure) = ⊥

-- ---- on the way

-- this is written of a run as it is, and the status of main's end
abbrev pub IsToldOf : Form → RunState → List ℕ → List ℕ → List ℕ → ℕ → Type 0
IsToldOf form run sent lines report status = IsReportIn form (account_of run sent lines) report × (status ≡ status_of run.log)

-- the same of a replay whose lines have these numbers in their file
abbrev pub IsToldOfReplay : Form → List ℕ → Play → List ℕ → ℕ → Type 0
IsToldOfReplay form numbers play report status = IsToldOf form play.run play.sent (lines_in_file numbers play.lines) report status

-- what the file says makes this of a run of the script that begins on the cluster, up to there, and what its log then means
pub record IsReplayedSoFar (script : Script) (size : Size) (says : EventFile) (play : Play) : Type 0 where
  pub played : IsPlayed script says (first_play size) play
  pub goes_on : play.run.is_halted ≡ false
  pub meant : IsSoundLog script play.run

-- What `run` writes, and its status.
use Rattle.std.specs.Prelude.{◌≡◌, ◌⊎◌, ℕ, Bool, false, if◌then◌else◌, List, [], Option, take, IfSome}
use Rattle.std.specs.Io.KnownBytes.{Appends}
use Rattle.meaning.specs.Syntax.{Script}
use Rattle.report_text.specs.of_report_lines.Main.{status_of}
use Rattle.fault_runs.specs.of_protocol_board.Cores.{Size, first_state}
use Rattle.fault_runs.specs.of_protocol_board.Cores.{IsSoundLog}
use Rattle.log_entries.specs.Refusals.{code_of}
use Rattle.log_entries.specs.declared.refusal.Refusal.{Refusal}
use Rattle.fault_runs.specs.of_protocol_board.Replays.{is_no_memory}
use Rattle.fault_runs.specs.of_protocol_board.Drives.{Course, EndsSo, StopsSo}
use Rattle.raysim_streams.specs.declared.CommandRefusal.{CommandRefusal}
use Rattle.raysim_streams.specs.declared.CommandRefusal.TheVariants.{At, NoMemory, Stopped as Stops, BadLine, WrongJob, Failed}
use Rattle.run_commands.specs.declared.form.Form.{Form}
use Rattle.script_commands.specs.Scripts.{Counts, IsScript, Explains}
use Rattle.run_commands.specs.Reports.{IsReportIn, IsAsSerialIn, account_of}

-- a run on such a cluster, as it begins
abbrev pub first_run : Size → Course
first_run size = record { run = first_state size.nodes size.slots; sent = [] }

-- a run of the script ends so: it was driven until nothing was left to do, and what its log then means
pub record IsEndOf (script : Script) (size : Size) (c : Course) : Type 0 where
  pub ends : EndsSo script (first_run size) c
  -- each event found memory, so that its tables are those to which its log led
  pub goes_on : c.run.is_halted ≡ false
  pub meant : IsSoundLog script c.run

-- the report of the run of the script, and its status
abbrev pub IsReportOf : Script → Size → Form → List ℕ → ℕ → Type 0
IsReportOf script size form report status =
    (c : Course) × IsEndOf script size c × IsReportIn form (account_of c.run c.sent []) report × (status ≡ status_of c.run.log)

-- why a run that is stopped so gives no report
abbrev pub run_refusal : Refusal → CommandRefusal
run_refusal refusal = if is_no_memory refusal then NoMemory else Stops (code_of refusal)

-- why a run of the script gives no report; want of memory, which may come anywhere, is no stop with a number
abbrev pub IsRunStop : Script → Size → CommandRefusal → Type 0
IsRunStop script size (At code span) = ⊥
IsRunStop script size NoMemory = Unit {0}
IsRunStop script size (Stops code) =
    (c : Course) × (refusal : Refusal) × (is_no_memory refusal ≡ false)
    × StopsSo script (first_run size) c refusal × (code ≡ code_of refusal)
IsRunStop script size (BadLine line) = ⊥
IsRunStop script size (WrongJob line) = ⊥
IsRunStop script size (Failed failure) = ⊥

-- the text is a script, and the report of its run was written, which begins as what `serial` writes of that script
pub record IsRunReported (size : Size) (form : Form) (text : List ℕ) (status : ℕ) (before after : Option (List ℕ)) : Type 0 where
  pub script : Script
  pub report : List ℕ
  pub is_script : IsScript text script
  pub reported : IsReportOf script size form report status
  pub as_serial : IsAsSerialIn form script reported.0.run.log report status
  pub written : Appends before after report

-- nothing was written, or the text is a script, and a beginning of the report of its run was written
abbrev pub IsRunBegun : Size → Form → List ℕ → Option (List ℕ) → Option (List ℕ) → Type 0
IsRunBegun size form text before after = (after ≡ before) ⊎
    ((script : Script) × (report : List ℕ) × (status : ℕ) × (k : ℕ) × IsScript text script × IsReportOf script size form report status
    × Appends before after (take k report))

-- why `run` refuses: as the other commands, or what was read, where it is known, is a script whose run stops so
abbrev pub ExplainsRun : Size → Option (List ℕ) → Counts → Counts → CommandRefusal → Type 0
ExplainsRun size text reads writes (Stops code) =
    IfSome text (λ bytes. (script : Script) × IsScript bytes script × IsRunStop script size (Stops code))
ExplainsRun size text reads writes (At code span) = Explains text reads writes (At code span)
ExplainsRun size text reads writes NoMemory = Explains text reads writes NoMemory
ExplainsRun size text reads writes (BadLine line) = Explains text reads writes (BadLine line)
ExplainsRun size text reads writes (WrongJob line) = Explains text reads writes (WrongJob line)
ExplainsRun size text reads writes (Failed failure) = Explains text reads writes (Failed failure)

-- What a run on threads writes, and its status.
use Rattle.std.specs.Prelude.{◌≡◌, ◌≤◌, ◌⊎◌, ℕ, false, List, [], Option, length, take, IfSome}
use Rattle.std.specs.Io.KnownBytes.{Appends}
use Rattle.meaning.specs.Syntax.{Script}
use Rattle.event_files.specs.declared.event_file.EventFile.TheVariants as files
use Rattle.event_files.specs.declared.recorded.RecordedEvent.{RecordedEvent}
use Rattle.event_files.specs.declared.plan.PlanLine.{PlanLine}
use Rattle.event_files.specs.Files.{IsBadAt, IsFile}
use Rattle.event_files.specs.Plans.{IsPlanLine, plan_line_text}
use Rattle.event_files.specs.Recorded.{IsEventFile, recorded_file}
use Rattle.report_text.specs.of_report_lines.Main.{status_of}
use Rattle.run_commands.specs.of_protocol_board.Cores.{RunState, Size}
use Rattle.run_commands.specs.of_protocol_board.Cores.{IsSoundLog}
use Rattle.run_commands.specs.of_protocol_board.Replays.{Play, PlaysFile}
use Rattle.replay_laws.specs.of_seats.Ends.{IsAtLimit, IsOver}
use Rattle.replay_laws.specs.of_seats.Seated.{AreFrom}
use Rattle.raysim_streams.specs.declared.Failure.TheVariants.{Read, Write, Closed}
use Rattle.raysim_streams.specs.declared.CommandRefusal.{CommandRefusal}
use Rattle.raysim_streams.specs.declared.CommandRefusal.TheVariants.{At, NoMemory, Stopped as Stops, BadLine, WrongJob, Failed}
use Rattle.run_commands.specs.declared.form.Form.{Form}
use Rattle.run_commands.specs.Reports.{IsAsSerialIn, IsReportIn, account_of}
use Rattle.script_commands.specs.Scripts.{Counts, FailedIn, IsAllowed, IsNoScriptFor, IsScript}
use Rattle.run_commands.specs.SimReports.{IfBoth, first_play}
use Rattle.event_files.specs.LogHistory.{AreSeated, recorded_in}

-- the bytes are a plan with these lines
abbrev pub IsPlan : List ℕ → List PlanLine → Type 0
IsPlan bytes lines = IsFile IsPlanLine plan_line_text bytes lines

-- what is written of a run of the script in that form, its history and its status are those of its log, and what that means
pub record AreOutputs (script : Script) (run : RunState) (form : Form) (report history : List ℕ) (status : ℕ) : Type 0 where
  pub meant : IsSoundLog script run
  pub reported : IsReportIn form (account_of run [] []) report
  pub recorded : history ≡ recorded_file (recorded_in run.log)
  -- where its events came from seats that an event file may name
  pub reads : AreSeated run.log → IsEventFile history (files.Recorded (recorded_in run.log))
  pub ends : status ≡ status_of run.log

-- a replay may apply so many events
abbrev pub MayBeReplayed : List RecordedEvent → Type 0
MayBeReplayed events = length events ≤ 100000

-- `sim` of the history may replay it, on that cluster; and whatever comes of a replay is this run, with this log
pub record ReplaysTo (script : Script) (size : Size) (run : RunState) : Type 0 where
  pub again : Play
  pub replays : PlaysFile script (files.Recorded (recorded_in run.log)) (first_play size) again
  pub same : (other : Play) → PlaysFile script (files.Recorded (recorded_in run.log)) (first_play size) other → other.run ≡ run

-- these are written of a run of the script beside the plan, on such a cluster, which is over; each event of it came from one of so many threads, and its
-- history replays to it
pub record IsRunOn (script : Script) (plan : List PlanLine) (size : Size) (threads : ℕ) (form : Form) (report history : List ℕ) (status : ℕ) : Type 0 where
  pub run : RunState
  pub over : IsOver script plan size run
  pub seated : AreFrom threads run.log
  -- the history is an event file, which says the events of the log
  pub is_file : IsEventFile history (files.Recorded (recorded_in run.log))
  pub replays : MayBeReplayed (recorded_in run.log) → ReplaysTo script size run
  pub outputs : AreOutputs script run form report history status

-- a run of the script beside the plan on such a cluster, each event of which came from one of so many threads, is at a limit; and what its log means
pub record IsStoppedOn (script : Script) (plan : List PlanLine) (size : Size) (threads : ℕ) : Type 0 where
  pub run : RunState
  pub meant : IsSoundLog script run
  pub at_limit : IsAtLimit script false plan size run
  pub seated : AreFrom threads run.log

-- why a run of the script beside the plan on such a cluster and so many threads gives neither: there was no memory, or it is at a limit
abbrev pub IsStop : Script → List PlanLine → Size → ℕ → CommandRefusal → Type 0
IsStop script plan size threads NoMemory = Unit {0}
IsStop script plan size threads (Stops code) = (code ≡ 37) × IsStoppedOn script plan size threads
IsStop script plan size threads (At code span) = ⊥
IsStop script plan size threads (BadLine n) = ⊥
IsStop script plan size threads (WrongJob n) = ⊥
IsStop script plan size threads (Failed failure) = ⊥

-- the texts are a script and a plan, a run of which stops so
abbrev pub IsStoppedRun : Size → ℕ → ℕ → List ℕ → List ℕ → Type 0
IsStoppedRun size threads code text plan =
    (script : Script) × (lines : List PlanLine) × IsScript text script × IsPlan plan lines × IsStop script lines size threads (Stops code)

-- the texts are a script and a plan, and the history and the report of a run were written, which begins as what `serial` writes of that script
pub record AreWritten (size : Size) (threads : ℕ) (form : Form) (text plan : List ℕ) (status : ℕ)
    (recorded recorded_now held held_now : Option (List ℕ)) : Type 0 where
  pub script : Script
  pub lines : List PlanLine
  pub report : List ℕ
  pub history : List ℕ
  pub is_script : IsScript text script
  pub is_plan : IsPlan plan lines
  pub run : IsRunOn script lines size threads form report history status
  pub as_serial : IsAsSerialIn form script run.run.log report status
  pub history_out : Appends recorded recorded_now history
  pub report_out : Appends held held_now report

-- a beginning of the history is out, or the history and a beginning of the report
abbrev pub AreBegun : List ℕ → List ℕ → Option (List ℕ) → Option (List ℕ) → Option (List ℕ) → Option (List ℕ) → Type 0
AreBegun history report recorded recorded_now held held_now =
    ((k : ℕ) × Appends recorded recorded_now (take k history) × (held_now ≡ held))
    ⊎ ((k : ℕ) × Appends recorded recorded_now history × Appends held held_now (take k report))

-- nothing is out
abbrev pub AreUnwritten : Option (List ℕ) → Option (List ℕ) → Option (List ℕ) → Option (List ℕ) → Type 0
AreUnwritten recorded recorded_now held held_now = (recorded_now ≡ recorded) × (held_now ≡ held)

pub record AreBegunOf (size : Size) (threads : ℕ) (form : Form) (text plan : List ℕ) (recorded recorded_now held held_now : Option (List ℕ)) : Type 0 where
  pub script : Script
  pub lines : List PlanLine
  pub report : List ℕ
  pub history : List ℕ
  pub status : ℕ
  pub is_script : IsScript text script
  pub is_plan : IsPlan plan lines
  pub run : IsRunOn script lines size threads form report history status
  pub out : AreBegun history report recorded recorded_now held held_now

-- nothing is out, or a beginning of what a run of the script writes
abbrev pub IsBegun : Size → ℕ → Form → List ℕ → List ℕ → Option (List ℕ) → Option (List ℕ) → Option (List ℕ) → Option (List ℕ) → Type 0
IsBegun size threads form text plan recorded recorded_now held held_now =
    AreUnwritten recorded recorded_now held held_now ⊎ AreBegunOf size threads form text plan recorded recorded_now held held_now

-- the text is a script, and the line of that number is the first of the other that is none of a plan
abbrev pub IsBadPlan : ℕ → List ℕ → List ℕ → Type 0
IsBadPlan n text plan = IsAllowed text × IsBadAt IsPlanLine plan_line_text plan n

-- why `run` refuses; the failures of reading the script, of reading the plan, of writing the history and of writing the report, before the call and after it
abbrev pub ExplainsThreads : Size → ℕ → Option (List ℕ) → Option (List ℕ) → Counts → Counts → Counts → Counts → CommandRefusal → Type 0
ExplainsThreads size threads text plan script_reads plan_reads history_writes report_writes (At code span) = IfSome text (λ t. IsNoScriptFor t (At code span))
ExplainsThreads size threads text plan script_reads plan_reads history_writes report_writes NoMemory = Unit {0}
ExplainsThreads size threads text plan script_reads plan_reads history_writes report_writes (Stops code) =
    IfBoth text plan (IsStoppedRun size threads code)
ExplainsThreads size threads text plan script_reads plan_reads history_writes report_writes (BadLine n) = IfBoth text plan (IsBadPlan n)
ExplainsThreads size threads text plan script_reads plan_reads history_writes report_writes (WrongJob n) = ⊥
ExplainsThreads size threads text plan script_reads plan_reads history_writes report_writes (Failed Read) =
    FailedIn script_reads ⊎ (FailedIn plan_reads × IfSome text IsAllowed)
ExplainsThreads size threads text plan script_reads plan_reads history_writes report_writes (Failed Write) = FailedIn report_writes ⊎ FailedIn history_writes
ExplainsThreads size threads text plan script_reads plan_reads history_writes report_writes (Failed Closed) = FailedIn report_writes ⊎ FailedIn history_writes

-- ---- on the way

-- why a plan isn't read
abbrev pub ExplainsPlan : Option (List ℕ) → Counts → CommandRefusal → Type 0
ExplainsPlan plan reads (BadLine n) = IfSome plan (λ p. IsBadAt IsPlanLine plan_line_text p n)
ExplainsPlan plan reads (WrongJob n) = ⊥
ExplainsPlan plan reads NoMemory = Unit {0}
ExplainsPlan plan reads (Failed Read) = FailedIn reads
ExplainsPlan plan reads (Failed Write) = ⊥
ExplainsPlan plan reads (Failed Closed) = ⊥
ExplainsPlan plan reads (At code span) = ⊥
ExplainsPlan plan reads (Stops code) = ⊥

-- why script and plan aren't read
abbrev pub ExplainsInputs : Option (List ℕ) → Option (List ℕ) → Counts → Counts → CommandRefusal → Type 0
ExplainsInputs text plan script_reads plan_reads (At code span) = IfSome text (λ t. IsNoScriptFor t (At code span))
ExplainsInputs text plan script_reads plan_reads NoMemory = Unit {0}
ExplainsInputs text plan script_reads plan_reads (Stops code) = ⊥
ExplainsInputs text plan script_reads plan_reads (BadLine n) = IfBoth text plan (IsBadPlan n)
ExplainsInputs text plan script_reads plan_reads (WrongJob n) = ⊥
ExplainsInputs text plan script_reads plan_reads (Failed Read) = FailedIn script_reads ⊎ (FailedIn plan_reads × IfSome text IsAllowed)
ExplainsInputs text plan script_reads plan_reads (Failed Write) = ⊥
ExplainsInputs text plan script_reads plan_reads (Failed Closed) = ⊥

-- a refusal for a failed write
abbrev pub IsOfWriting : CommandRefusal → Type 0
IsOfWriting (Failed Write) = Unit {0}
IsOfWriting (Failed Closed) = Unit {0}
IsOfWriting (Failed Read) = ⊥
IsOfWriting NoMemory = ⊥
IsOfWriting (Stops code) = ⊥
IsOfWriting (At code span) = ⊥
IsOfWriting (BadLine n) = ⊥
IsOfWriting (WrongJob n) = ⊥

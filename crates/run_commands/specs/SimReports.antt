-- What `sim` writes, and its status.
use Rattle.std.specs.Prelude.{◌≡◌, ◌⊎◌, ℕ, false, List, Option, Some, None, map, take, drop, IfSome}
use Rattle.std.specs.Io.KnownBytes.{Appends}
use Rattle.meaning.specs.Syntax.{Script}
use Rattle.event_files.specs.declared.error.EventError.TheVariants as errors
use Rattle.event_files.specs.declared.event_file.EventFile.{EventFile}
use Rattle.event_files.specs.declared.event_file.EventFile.TheVariants as files
use Rattle.event_files.specs.Recorded.{IsEventFile, IsFileRefusal}
use Rattle.event_files.specs.Numbering.{line_numbers}
use Rattle.event_log.specs.Events.{from_one}
use Rattle.report_text.specs.of_report_lines.Main.{status_of}
use Rattle.fault_runs.specs.of_protocol_board.Cores.{Size}
use Rattle.fault_runs.specs.of_protocol_board.declared.stopped.ReplayStop.{ReplayStop}
use Rattle.fault_runs.specs.of_protocol_board.declared.stopped.ReplayStop.TheVariants as stops
use Rattle.fault_runs.specs.of_protocol_board.Cores.{IsSoundLog}
use Rattle.fault_runs.specs.of_protocol_board.Replays.{FileStops, Play, PlaysFile}
pub use Rattle.fault_runs.specs.Replays.{first_play}
use Rattle.raysim_streams.specs.declared.Failure.TheVariants.{Read, Write, Closed}
use Rattle.raysim_streams.specs.declared.CommandRefusal.{CommandRefusal}
use Rattle.raysim_streams.specs.declared.CommandRefusal.TheVariants.{At, NoMemory, Stopped as Stops, BadLine, WrongJob, Failed}
use Rattle.run_commands.specs.declared.form.Form.{Form}
use Rattle.run_commands.specs.Reports.{IsReportIn, IsAsSerialIn, account_of}
use Rattle.script_commands.specs.Scripts.{Counts, FailedIn, IsAllowed, IsScript, IsNoScriptFor}

-- the numbers of a file's lines that say something; the first line of format 2 tells the format alone
abbrev pub said_numbers : EventFile → List ℕ → List ℕ
said_numbers (files.Lines lines) bytes = line_numbers bytes
said_numbers (files.Recorded events) bytes = drop 1 (line_numbers bytes)

-- the bytes are an event file that says this, in lines of these numbers
abbrev pub AreEvents : List ℕ → EventFile → List ℕ → Type 0
AreEvents bytes says numbers = IsEventFile bytes says × (numbers ≡ said_numbers says bytes)

abbrev pub or_none : Option ℕ → ℕ
or_none (Some n) = n
or_none None = 0

-- the number in the file of the line that is the k-th of those that say something
abbrev pub number_of : List ℕ → ℕ → ℕ
number_of numbers k = or_none (from_one numbers k)

abbrev pub lines_in_file : List ℕ → List ℕ → List ℕ
lines_in_file numbers lines = map (number_of numbers) lines

-- the lines make this of a run of the script that begins on the cluster, and what its log then means
pub record IsReplayed (script : Script) (size : Size) (says : EventFile) (p : Play) : Type 0 where
  pub plays : PlaysFile script says (first_play size) p
  -- each event found memory, so that its tables are those to which its log led
  pub goes_on : p.run.is_halted ≡ false
  pub meant : IsSoundLog script p.run

-- the report of the replay of these lines, which have these numbers in their file, and its status
abbrev pub IsSimReportOf : Script → Size → Form → EventFile → List ℕ → List ℕ → ℕ → Type 0
IsSimReportOf script size form says numbers report status =
    (p : Play) × IsReplayed script size says p × IsReportIn form (account_of p.run p.sent (lines_in_file numbers p.lines)) report ×
    (status ≡ status_of p.run.log)

-- the replay of these lines stops before an event more than it may apply
abbrev pub IsTooLong : Script → Size → EventFile → Type 0
IsTooLong script size says = (p : Play) × FileStops script says (first_play size) p stops.TooLong

-- the replay of what the file says in lines of these numbers stops in line n, at a claim that gave another job
abbrev pub IsWrongJob : Script → Size → EventFile → List ℕ → ℕ → Type 0
IsWrongJob script size says numbers n = (p : Play) × FileStops script says (first_play size) p stops.WrongJob × (n ≡ number_of numbers p.begun)

-- the texts are a script and an event file, and the report of the replay was written, which begins as what `serial` writes of that script
pub record IsSimReported (size : Size) (form : Form) (text events : List ℕ) (status : ℕ) (before after : Option (List ℕ)) : Type 0 where
  pub script : Script
  pub says : EventFile
  pub numbers : List ℕ
  pub report : List ℕ
  pub is_script : IsScript text script
  pub are_events : AreEvents events says numbers
  pub reported : IsSimReportOf script size form says numbers report status
  pub as_serial : IsAsSerialIn form script reported.0.run.log report status
  pub written : Appends before after report

-- a beginning of the report was written
pub record IsSimBegun (size : Size) (form : Form) (text events : List ℕ) (before after : Option (List ℕ)) : Type 0 where
  pub script : Script
  pub says : EventFile
  pub numbers : List ℕ
  pub report : List ℕ
  pub status : ℕ
  pub is_script : IsScript text script
  pub are_events : AreEvents events says numbers
  pub reported : IsSimReportOf script size form says numbers report status
  pub count : ℕ
  pub written : Appends before after (take count report)

-- what is known of both texts
abbrev pub IfBoth : Option (List ℕ) → Option (List ℕ) → (List ℕ → List ℕ → Type 0) → Type 0
IfBoth text events P = IfSome text (λ t. IfSome events (λ e. P t e))

-- the texts are a script and an event file of more events than a replay may apply
abbrev pub IsStopped : Size → ℕ → List ℕ → List ℕ → Type 0
IsStopped size code text events =
    (code ≡ 41) × (script : Script) × (says : EventFile) × (numbers : List ℕ) × IsScript text script × AreEvents events says numbers ×
    IsTooLong script size says

-- the texts are a script and an event file, in line n of which a claim gave another job
abbrev pub IsWrongLine : Size → ℕ → List ℕ → List ℕ → Type 0
IsWrongLine size n text events =
    (script : Script) × (says : EventFile) × (numbers : List ℕ) × IsScript text script × AreEvents events says numbers × IsWrongJob script size says numbers n

-- the text is a script, and the line of that number is the first of the other that is none of an event file
abbrev pub IsBadLine : ℕ → List ℕ → List ℕ → Type 0
IsBadLine n text events = IsAllowed text × IsFileRefusal events (errors.BadLine n)

-- why `sim` refuses; the failures of reading the script, of reading the events and of writing, before the call and after it
abbrev pub ExplainsSim : Size → Option (List ℕ) → Option (List ℕ) → Counts → Counts → Counts → CommandRefusal → Type 0
ExplainsSim size text events script_reads event_reads writes (At code span) = IfSome text (λ t. IsNoScriptFor t (At code span))
ExplainsSim size text events script_reads event_reads writes NoMemory = Unit {0}
ExplainsSim size text events script_reads event_reads writes (Stops code) = IfBoth text events (IsStopped size code)
ExplainsSim size text events script_reads event_reads writes (BadLine n) = IfBoth text events (IsBadLine n)
ExplainsSim size text events script_reads event_reads writes (WrongJob n) = IfBoth text events (IsWrongLine size n)
ExplainsSim size text events script_reads event_reads writes (Failed Read) =
    FailedIn script_reads ⊎ (FailedIn event_reads × IfSome text IsAllowed)
ExplainsSim size text events script_reads event_reads writes (Failed Write) = FailedIn writes
ExplainsSim size text events script_reads event_reads writes (Failed Closed) = FailedIn writes

-- ---- on the way

-- what a replay that stopped in that line is refused as
abbrev pub stop_refusal : ReplayStop → ℕ → CommandRefusal
stop_refusal stops.NoMemory n = NoMemory
stop_refusal stops.TooLong n = Stops 41
stop_refusal stops.WrongJob n = WrongJob n

-- why the replay of what the file says, in lines of these numbers, gives no report
abbrev pub IsStopOf : Script → Size → EventFile → List ℕ → CommandRefusal → Type 0
IsStopOf script size says numbers (Stops code) = (code ≡ 41) × IsTooLong script size says
IsStopOf script size says numbers NoMemory = Unit {0}
IsStopOf script size says numbers (At code span) = ⊥
IsStopOf script size says numbers (BadLine n) = ⊥
IsStopOf script size says numbers (WrongJob n) = IsWrongJob script size says numbers n
IsStopOf script size says numbers (Failed failure) = ⊥

-- why a text is no event file
abbrev pub ExplainsList : List ℕ → CommandRefusal → Type 0
ExplainsList events (BadLine n) = IsFileRefusal events (errors.BadLine n)
ExplainsList events NoMemory = Unit {0}
ExplainsList events (At code span) = ⊥
ExplainsList events (Stops code) = ⊥
ExplainsList events (WrongJob n) = ⊥
ExplainsList events (Failed failure) = ⊥

-- why an event file isn't read
abbrev pub ExplainsEvents : Option (List ℕ) → Counts → CommandRefusal → Type 0
ExplainsEvents events reads (BadLine n) = IfSome events (λ e. IsFileRefusal e (errors.BadLine n))
ExplainsEvents events reads (WrongJob n) = ⊥
ExplainsEvents events reads NoMemory = Unit {0}
ExplainsEvents events reads (Failed Read) = FailedIn reads
ExplainsEvents events reads (Failed Write) = ⊥
ExplainsEvents events reads (Failed Closed) = ⊥
ExplainsEvents events reads (At code span) = ⊥
ExplainsEvents events reads (Stops code) = ⊥

-- What `migrate` writes: the history of the replay of a file of format 1, or why it refuses.
use Rattle.std.specs.Prelude.{◌≡◌, ◌++◌, ℕ, List, Option, take, IfSome}
use Rattle.std.specs.Io.KnownBytes.{Appends}
use Rattle.meaning.specs.Syntax.{Script}
use Rattle.event_log.specs.Entries.{Entry}
use Rattle.event_files.specs.Files.{IsBadAt, IsFile}
use Rattle.event_files.specs.Lines.{IsLine, line_text}
use Rattle.event_files.specs.Recorded.{IsEventFile, header, recorded_file}
use Rattle.event_files.specs.declared.event_file.EventFile.TheVariants as files
use Rattle.event_files.specs.declared.line.Line.{Line}
use Rattle.event_files.specs.LogHistory.{recorded_in}
use Rattle.run_commands.specs.of_protocol_board.Cores.{Size}
use Rattle.run_commands.specs.of_protocol_board.Replays.{Play, PlaysFile}
use Rattle.raysim_streams.specs.declared.Failure.TheVariants.{Read, Write, Closed}
use Rattle.raysim_streams.specs.declared.CommandRefusal.{CommandRefusal}
use Rattle.raysim_streams.specs.declared.CommandRefusal.TheVariants.{At, NoMemory, Stopped as Stops, BadLine, WrongJob, Failed}
use Rattle.script_commands.specs.Scripts.{Counts, FailedIn, IsAllowed, IsScript}
use Rattle.run_commands.specs.SimReports.{ExplainsSim, IfBoth, IsReplayed, IsTooLong, first_play}

-- the bytes are an event file of format 1 with these lines
abbrev pub IsLinesFile : List ℕ → List Line → Type 0
IsLinesFile bytes lines = IsFile IsLine line_text bytes lines

-- the text is the history of the replay of these lines: an event file that says the events of its log, each with its seat, and a claim with the job that
-- it gave; and the replay of these events is that same run
pub record IsHistoryOf (script : Script) (size : Size) (lines : List Line) (text : List ℕ) : Type 0 where
  pub play : Play
  pub replayed : IsReplayed script size (files.Lines lines) play
  pub log : List Entry
  pub of_log : log ≡ play.run.log
  pub written : text ≡ recorded_file (recorded_in log)
  pub is_file : IsEventFile text (files.Recorded (recorded_in log))
  pub again : Play
  pub replays : PlaysFile script (files.Recorded (recorded_in log)) (first_play size) again
  pub same : (other : Play) → PlaysFile script (files.Recorded (recorded_in log)) (first_play size) other → other.run ≡ play.run

-- the texts are a script and an event file of format 1, and the history of the replay was written
pub record IsMigrated (size : Size) (text events : List ℕ) (before after : Option (List ℕ)) : Type 0 where
  pub script : Script
  pub lines : List Line
  pub history : List ℕ
  pub is_script : IsScript text script
  pub are_lines : IsLinesFile events lines
  pub migrated : IsHistoryOf script size lines history
  pub written : Appends before after history

-- a beginning of the history was written
pub record IsMigrationBegun (size : Size) (text events : List ℕ) (before after : Option (List ℕ)) : Type 0 where
  pub script : Script
  pub lines : List Line
  pub history : List ℕ
  pub is_script : IsScript text script
  pub are_lines : IsLinesFile events lines
  pub migrated : IsHistoryOf script size lines history
  pub count : ℕ
  pub written : Appends before after (take count history)

-- the text is a script, and the line of that number is the first of the other that is none of format 1; of a file of format 2 that is the first
pub record IsNoLine (n : ℕ) (text events : List ℕ) : Type 0 where
  pub allowed : IsAllowed text
  pub bad : IsBadAt IsLine line_text events n
  pub of_recorded : (rest : List ℕ) → events ≡ header ++ rest → n ≡ 1

-- why `migrate` refuses: as `sim` does, but that it takes files of format 1 alone, whose claims name no jobs
abbrev pub ExplainsMigration : Size → Option (List ℕ) → Option (List ℕ) → Counts → Counts → Counts → CommandRefusal → Type 0
ExplainsMigration size text events script_reads event_reads writes (BadLine n) = IfBoth text events (IsNoLine n)
ExplainsMigration size text events script_reads event_reads writes (WrongJob n) = ⊥
ExplainsMigration size text events script_reads event_reads writes (At code span) =
    ExplainsSim size text events script_reads event_reads writes (At code span)
ExplainsMigration size text events script_reads event_reads writes NoMemory =
    ExplainsSim size text events script_reads event_reads writes NoMemory
ExplainsMigration size text events script_reads event_reads writes (Stops code) =
    ExplainsSim size text events script_reads event_reads writes (Stops code)
ExplainsMigration size text events script_reads event_reads writes (Failed failure) =
    ExplainsSim size text events script_reads event_reads writes (Failed failure)

-- ---- on the way

-- why the replay of the lines gives no history
abbrev pub IsLinesStop : Script → Size → List Line → CommandRefusal → Type 0
IsLinesStop script size lines (Stops code) = (code ≡ 41) × IsTooLong script size (files.Lines lines)
IsLinesStop script size lines NoMemory = Unit {0}
IsLinesStop script size lines (At code span) = ⊥
IsLinesStop script size lines (BadLine n) = ⊥
IsLinesStop script size lines (WrongJob n) = ⊥
IsLinesStop script size lines (Failed failure) = ⊥

-- why the lines aren't read
abbrev pub ExplainsLines : Option (List ℕ) → Counts → CommandRefusal → Type 0
ExplainsLines events reads (BadLine n) = IfSome events (λ e. IsBadAt IsLine line_text e n)
ExplainsLines events reads NoMemory = Unit {0}
ExplainsLines events reads (Failed Read) = FailedIn reads
ExplainsLines events reads (Failed Write) = ⊥
ExplainsLines events reads (Failed Closed) = ⊥
ExplainsLines events reads (At code span) = ⊥
ExplainsLines events reads (Stops code) = ⊥
ExplainsLines events reads (WrongJob n) = ⊥

-- What is read of files, and why one is refused.
use Rattle.std.specs.Prelude.{◌≡◌, ◌+◌, ◌<◌, ℕ, Bool, true, false, List, [], ◌∷◌, ◌++◌, length, Option, drop, IfSome}
use Rattle.event_files.specs.Files.{IsBadAt, IsFile}
use Rattle.event_files.specs.Lines.{IsLine, line_text}
use Rattle.event_files.specs.Numbering.{line_numbers, numbers_from}
use Rattle.event_files.specs.Plans.{IsPlanLine, plan_line_text}
use Rattle.event_files.specs.Recorded.{IsEventFile, IsFileRefusal, IsRecordedRefusal}
use Rattle.event_files.specs.declared.error.EventError.TheVariants as errors
use Rattle.event_files.specs.declared.event_file.EventFile.{EventFile}
use Rattle.event_files.specs.declared.event_file.EventFile.TheVariants as files
use Rattle.event_files.specs.declared.line.Line.{Line}
use Rattle.event_files.specs.declared.line.Line.TheVariants as lines
use Rattle.event_files.specs.declared.recorded.RecordedEvent.{RecordedEvent}
use Rattle.event_files.specs.declared.plan.PlanLine.{PlanLine}
use Rattle.raysim_streams.specs.declared.CommandRefusal.{CommandRefusal}
use Rattle.raysim_streams.specs.declared.CommandRefusal.TheVariants.{At, NoMemory, Stopped, BadLine, WrongJob, Failed}
use Rattle.raysim_streams.specs.declared.Failure.TheVariants.{Read, Write, Closed}
use Rattle.raysim_streams.specs.Settled.{Counts, FailedIn}
use Rattle.event_reading.specs.declared.kept.Kept.{Kept}
use Rattle.event_reading.specs.declared.events.KeptEvents.{KeptEvents}
use Rattle.event_reading.specs.Kept.{IsKeptOf, IsKeptSo}
use Rattle.event_reading.specs.Rows.{IsLongSettle, settle_size}

-- the bytes are lines that say these things, of which this is kept; the first line has that number
pub record AreKept {A : Type 0} (is_event : A → Bool) (is : A → Type 0) (text : A → List ℕ) (first : ℕ) (bytes : List ℕ) (k : Kept A) : Type 0 where
  pub all : List A
  pub numbers : List ℕ
  pub is_file : IsFile is text bytes all
  pub numbered : numbers ≡ numbers_from first true bytes
  pub are_kept : IsKeptOf is_event all numbers k

-- a settle counts as no event, and each line of format 2 is one
abbrev pub is_event_line : Line → Bool
is_event_line (lines.Event e) = true
is_event_line (lines.Settle ws) = false

abbrev pub each_is_event : RecordedEvent → Bool
each_is_event r = true

-- the bytes are a file of format 1, of which this is kept
abbrev pub AreLinesKept : List ℕ → Kept Line → Type 0
AreLinesKept bytes k = AreKept is_event_line IsLine line_text 1 bytes k

-- the bytes begin with lines that say these things, and behind them stands that
pub record BeginsWith {A : Type 0} (is : A → Type 0) (text : A → List ℕ) (bytes : List ℕ) (says : List A) (rest : List ℕ) : Type 0 where
  pub front : List ℕ
  pub is_file : IsFile is text front says
  pub written : bytes ≡ front ++ rest

-- more lines of a plan than are kept
pub record IsPlanLong (bytes : List ℕ) : Type 0 where
  pub says : List PlanLine
  pub rest : List ℕ
  pub begins : BeginsWith IsPlanLine plan_line_text bytes says rest
  pub are_many : 262144 < length says

-- how many bytes the settle lines have, their line feeds not counted
abbrev pub settled : List Line → ℕ
settled [] = 0
settled (l ∷ ls) = settle_size l + settled ls

-- more bytes of settle lines than are kept: those of the lines before, and of the one that stands there
pub record AreSettlesLong (bytes : List ℕ) : Type 0 where
  pub says : List Line
  pub rest : List ℕ
  pub begins : BeginsWith IsLine line_text bytes says rest
  pub room : ℕ
  pub is_room : room + settled says ≡ 1048576
  pub next : IsLongSettle room rest

-- why lines are refused: the first that is none of the format, or more than is kept, as `long` tells; or want of memory, where no read
-- failed; or a failed read
abbrev pub ExplainsRows : {A : Type 0} → (A → Type 0) → (A → List ℕ) → (List ℕ → Type 0) → Option (List ℕ) → Counts → CommandRefusal → Type 0
ExplainsRows is text long bytes reads (BadLine n) = IfSome bytes (λ b. IsBadAt is text b n)
ExplainsRows is text long bytes reads NoMemory = reads.1 ≡ reads.0
ExplainsRows is text long bytes reads (Failed Read) = FailedIn reads
ExplainsRows is text long bytes reads (Failed Write) = ⊥
ExplainsRows is text long bytes reads (Failed Closed) = ⊥
ExplainsRows is text long bytes reads (At code span) = ⊥
ExplainsRows is text long bytes reads (Stopped code) = (code ≡ 41) × IfSome bytes long
ExplainsRows is text long bytes reads (WrongJob n) = ⊥

-- why what stands behind the first line of format 2 is refused; its lines are counted from 2
abbrev pub ExplainsBehind : Option (List ℕ) → Counts → CommandRefusal → Type 0
ExplainsBehind bytes reads (BadLine n) = IfSome bytes (λ b. IsRecordedRefusal b (errors.BadLine n))
ExplainsBehind bytes reads NoMemory = reads.1 ≡ reads.0
ExplainsBehind bytes reads (Failed Read) = FailedIn reads
ExplainsBehind bytes reads (Failed Write) = ⊥
ExplainsBehind bytes reads (Failed Closed) = ⊥
ExplainsBehind bytes reads (At code span) = ⊥
ExplainsBehind bytes reads (Stopped code) = ⊥
ExplainsBehind bytes reads (WrongJob n) = ⊥

-- the numbers of a file's lines that say something; the first line of format 2 tells the format alone
abbrev pub said_numbers : EventFile → List ℕ → List ℕ
said_numbers (files.Lines lines) bytes = line_numbers bytes
said_numbers (files.Recorded events) bytes = drop 1 (line_numbers bytes)

-- of what the lines of these numbers say this is kept, of the same format
abbrev pub IsKeptFile : EventFile → List ℕ → EventFile → List ℕ → Bool → ℕ → Type 0
IsKeptFile (files.Lines all) numbers (files.Lines says) kept is_whole events = IsKeptSo is_event_line is_whole all numbers says kept events
IsKeptFile (files.Recorded all) numbers (files.Recorded says) kept is_whole events = IsKeptSo each_is_event is_whole all numbers says kept events
IsKeptFile (files.Lines all) numbers (files.Recorded says) kept is_whole events = ⊥
IsKeptFile (files.Recorded all) numbers (files.Lines says) kept is_whole events = ⊥

-- the bytes are an event file that says this in lines of these numbers, of which that is kept
pub record AreEventsKept (bytes : List ℕ) (k : KeptEvents) : Type 0 where
  pub all : EventFile
  pub numbers : List ℕ
  pub is_file : IsEventFile bytes all
  pub numbered : numbers ≡ said_numbers all bytes
  pub are_kept : IsKeptFile all numbers k.says k.numbers k.is_whole k.events

-- why an event file is refused: of format 2 nothing is too long
abbrev pub ExplainsFile : Option (List ℕ) → Counts → CommandRefusal → Type 0
ExplainsFile bytes reads (BadLine n) = IfSome bytes (λ b. IsFileRefusal b (errors.BadLine n))
ExplainsFile bytes reads NoMemory = reads.1 ≡ reads.0
ExplainsFile bytes reads (Failed Read) = FailedIn reads
ExplainsFile bytes reads (Failed Write) = ⊥
ExplainsFile bytes reads (Failed Closed) = ⊥
ExplainsFile bytes reads (At code span) = ⊥
ExplainsFile bytes reads (Stopped code) = (code ≡ 41) × IfSome bytes AreSettlesLong
ExplainsFile bytes reads (WrongJob n) = ⊥

-- Event files of format 2: each line names the seat from which its event came, and a claim's the number of the job that it gave.
use Rattle.std.specs.Prelude.{◌≡◌, ℕ, ◌+◌, ◌<◌, ◌^◌, if◌then◌else◌, nat_lt, List, [], ◌∷◌, ◌++◌, Option, Some, None, codes}
use Rattle.std.specs.List.{flat_map}
use Rattle.std.specs.Option.{option_map}
use Rattle.std.specs.Fmt.{decimal}
use Rattle.log_entries.specs.Texts.{event_text}
use Rattle.log_entries.specs.declared.event.Event.{Event}
use Rattle.log_entries.specs.declared.event.Event.TheVariants.{Claim}
use Rattle.event_files.specs.declared.error.EventError.{EventError}
use Rattle.event_files.specs.declared.error.EventError.TheVariants as errors
use Rattle.event_files.specs.declared.event_file.EventFile.{EventFile}
use Rattle.event_files.specs.declared.event_file.EventFile.TheVariants as files
use Rattle.event_files.specs.declared.recorded.RecordedEvent.{RecordedEvent}
use Rattle.event_files.specs.Files.{IsBadAt, IsFile, IsRefusal}
use Rattle.event_files.specs.Lines.{IsEvent, IsLine, line_text}
use Rattle.event_files.specs.Reading.{pick, go_on, parted, behind, number_in, worker_in, event_in}

-- a claim has the number of the job that it gave, 0 where it was refused; another event has none
abbrev pub IsGiven : Event → Option ℕ → Type 0
IsGiven (Claim w) None = ⊥
IsGiven (Claim w) (Some j) = j < 2 ^ 64
IsGiven e None = Unit {0}
IsGiven e (Some j) = ⊥

-- seats are 0 to 8
abbrev pub IsRecorded : RecordedEvent → Type 0
IsRecorded r = (r.seat < 9) × IsEvent r.event × IsGiven r.event r.given

abbrev pub given_text : Option ℕ → List ℕ
given_text None = []
given_text (Some j) = codes " " ++ decimal j

-- S EVENT, or S claim W J
abbrev pub recorded_text : RecordedEvent → List ℕ
recorded_text r = decimal r.seat ++ (codes " " ++ (event_text r.event ++ given_text r.given))

-- the first line, with its line feed
abbrev pub header : List ℕ
header = codes "raysim 2\n"

-- the bytes are such a file, which says these events
abbrev pub IsRecordedFile : List ℕ → List RecordedEvent → Type 0
IsRecordedFile bytes events = (rest : List ℕ) × (bytes ≡ header ++ rest) × IsFile IsRecorded recorded_text rest events

-- why what stands behind the first line is refused; lines are counted from that line on
abbrev pub IsRecordedRefusal : List ℕ → EventError → Type 0
IsRecordedRefusal rest (errors.BadLine n) = (m : ℕ) × (n ≡ m + 1) × IsBadAt IsRecorded recorded_text rest m
IsRecordedRefusal rest errors.NoMemory = Unit {0}

-- ---- both formats

-- the bytes are a file of events, in the one format or the other
abbrev pub IsEventFile : List ℕ → EventFile → Type 0
IsEventFile bytes (files.Lines lines) = IsFile IsLine line_text bytes lines
IsEventFile bytes (files.Recorded events) = IsRecordedFile bytes events

-- why the bytes are refused: the first line tells the format
abbrev pub IsRefusalBehind : Option (List ℕ) → List ℕ → EventError → Type 0
IsRefusalBehind None bytes e = IsRefusal IsLine line_text bytes e
IsRefusalBehind (Some rest) bytes e = IsRecordedRefusal rest e

abbrev pub IsFileRefusal : List ℕ → EventError → Type 0
IsFileRefusal bytes e = IsRefusalBehind (behind header bytes) bytes e

-- ---- printing

abbrev pub recorded_line : RecordedEvent → List ℕ
recorded_line r = recorded_text r ++ 10 ∷ []

abbrev pub recorded_file : List RecordedEvent → List ℕ
recorded_file events = header ++ flat_map recorded_line events

abbrev pub AreRecorded : List RecordedEvent → Type 0
AreRecorded [] = Unit {0}
AreRecorded (r ∷ events) = IsRecorded r × AreRecorded events

-- ---- reading

abbrev pub recorded : ℕ → Event → Option ℕ → RecordedEvent
recorded seat event given = record { seat = seat; event = event; given = given }

abbrev pub seat_in : List ℕ → Option ℕ
seat_in bytes = go_on (number_in 64 bytes) (λ n. if nat_lt n 9 then Some n else None)

-- W J
abbrev pub claim_in : ℕ → List ℕ → Option RecordedEvent
claim_in seat bytes = go_on (parted 32 bytes) (λ x. go_on (worker_in x.0) (λ w. option_map (λ j. recorded seat (Claim w) (Some j)) (number_in 64 x.1)))

abbrev pub other_in : ℕ → List ℕ → Option RecordedEvent
other_in seat bytes = option_map (λ e. recorded seat e None) (event_in bytes)

abbrev pub said_in : ℕ → List ℕ → Option RecordedEvent
said_in seat bytes = pick (behind (codes "claim ") bytes) (λ x. claim_in seat x) (other_in seat bytes)

unfoldable pub recorded_in : List ℕ → Option RecordedEvent
recorded_in bytes = go_on (parted 32 bytes) (λ x. go_on (seat_in x.0) (λ s. said_in s x.1))

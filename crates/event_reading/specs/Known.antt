-- Bytes that are read one after the other, where it is known what is left.
use Rattle.std.specs.Prelude.{◌≡◌, ◌⊎◌, ◌≤◌, ℕ, Bool, true, false, List, [], ◌∷◌, ◌++◌, reverse, length, Option, Some, None, MatchOption}
use Rattle.std.specs.Io.KnownBytes.{prepend_known}
use Rattle.event_files.specs.Reading.{behind, has}
use Rattle.event_files.specs.Recorded.{header}
use Rattle.raysim_streams.specs.declared.CommandRefusal.{CommandRefusal}
use Rattle.raysim_streams.specs.declared.CommandRefusal.TheVariants.{At, NoMemory, Stopped, BadLine, WrongJob, Failed}
use Rattle.raysim_streams.specs.declared.Failure.TheVariants.{Read, Write, Closed}
use Rattle.raysim_streams.specs.Settled.{Counts, FailedIn}
use Rattle.event_reading.specs.declared.row.LineEnd.{LineEnd}
use Rattle.event_reading.specs.declared.row.LineEnd.TheVariants as ends

-- what is left: the bytes that were read ahead, the next one last, and then those of the reader
abbrev pub left_of : List ℕ → Option (List ℕ) → Option (List ℕ)
left_of ahead known = prepend_known (reverse ahead) known

-- this holds of what was left and what is left, where that is known
abbrev pub IfKnown : Option (List ℕ) → Option (List ℕ) → (List ℕ → List ℕ → Type 0) → Type 0
IfKnown None new P = Unit {0}
IfKnown (Some b) None P = ⊥
IfKnown (Some b) (Some r) P = P b r

-- what was read ahead stays, and is some where it is said so
abbrev pub IsReadAhead : Bool → List ℕ → List ℕ → Type 0
IsReadAhead true b r = r ≡ b
IsReadAhead false b r = (b ≡ []) × (r ≡ [])

-- the next byte is taken, if there is one
abbrev pub IsNextByte : Option ℕ → List ℕ → List ℕ → Type 0
IsNextByte byte b r = MatchOption byte ((b ≡ []) × (r ≡ [])) (λ x. b ≡ x ∷ r)

-- these bytes are taken: as many as the first line of format 2 has, or all
pub record IsBegun (front b r : List ℕ) : Type 0 where
  pub are : b ≡ front ++ r
  pub enough : (length front ≡ 9) ⊎ (r ≡ [])
  pub few : length front ≤ 9

-- the first line of format 2 is taken, where it stands there
abbrev pub IsHeaderTaken : Bool → List ℕ → List ℕ → Type 0
IsHeaderTaken true b r = b ≡ header ++ r
IsHeaderTaken false b r = (r ≡ b) × (behind header b ≡ None)

-- these bytes are taken up to where the line ends, or where it is longer than so many
abbrev pub IsTakenTo : LineEnd → List ℕ → List ℕ → List ℕ → Type 0
IsTakenTo ends.Feed taken b r = b ≡ taken ++ 10 ∷ r
IsTakenTo ends.Nothing taken b r = (b ≡ taken) × (r ≡ [])
IsTakenTo ends.Cut taken b r = b ≡ taken ++ r

-- the rest of a line is taken
pub record IsRestOfLine (end : LineEnd) (taken b r : List ℕ) : Type 0 where
  pub are : IsTakenTo end taken b r
  pub in_a_line : has 10 taken ≡ false

-- why there is no byte: want of memory, where no read failed, or a failed read
abbrev pub IsReadRefusal : Counts → CommandRefusal → Type 0
IsReadRefusal reads NoMemory = reads.1 ≡ reads.0
IsReadRefusal reads (Failed Read) = FailedIn reads
IsReadRefusal reads (Failed Write) = ⊥
IsReadRefusal reads (Failed Closed) = ⊥
IsReadRefusal reads (At code span) = ⊥
IsReadRefusal reads (Stopped code) = ⊥
IsReadRefusal reads (BadLine n) = ⊥
IsReadRefusal reads (WrongJob n) = ⊥

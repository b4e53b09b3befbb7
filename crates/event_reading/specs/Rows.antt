-- Lines that are read one after the other.
use Rattle.std.specs.Prelude.{◌≡◌, ◌≢◌, ◌<◌, ℕ, true, false, List, [], ◌∷◌, ◌++◌, length, codes, Option, Some, None, IfSome}
use Rattle.event_files.specs.Files.{IsNoRow, is_passed}
use Rattle.event_files.specs.Lines.{settle_text}
use Rattle.event_files.specs.Reading.{behind, has, line_in}
use Rattle.event_files.specs.declared.line.Line.{Line}
use Rattle.event_files.specs.declared.line.Line.TheVariants as lines
use Rattle.raysim_streams.specs.declared.CommandRefusal.{CommandRefusal}
use Rattle.raysim_streams.specs.declared.CommandRefusal.TheVariants.{At, NoMemory, Stopped, BadLine, WrongJob, Failed}
use Rattle.raysim_streams.specs.declared.Failure.TheVariants.{Read, Write, Closed}
use Rattle.raysim_streams.specs.Settled.{Counts, FailedIn}
use Rattle.event_reading.specs.declared.row.LineEnd.{LineEnd}
use Rattle.event_reading.specs.declared.row.LineEnd.TheVariants as ends
use Rattle.event_reading.specs.declared.row.Row.{Row}
use Rattle.event_reading.specs.declared.row.Row.TheVariants.{End, Passed, Whole, Unended, Long}
use Rattle.event_reading.specs.declared.next_line.Next.{Next}
use Rattle.event_reading.specs.declared.next_line.Next.TheVariants as nexts
use Rattle.event_reading.specs.Known.{IsRestOfLine}

-- a line that is cut has more than so many bytes
abbrev pub IsLong : ℕ → List ℕ → LineEnd → Type 0
IsLong most line ends.Feed = Unit {0}
IsLong most line ends.Nothing = Unit {0}
IsLong most line ends.Cut = most < length line

-- a line is read on, from the one to the other
pub record IsLineRead (most : ℕ) (before after : List ℕ) (end : LineEnd) (b r : List ℕ) : Type 0 where
  pub taken : List ℕ
  pub rest : IsRestOfLine end taken b r
  pub line : after ≡ before ++ taken
  pub is_long : IsLong most after end

-- a line, without its line feed, with what it is
pub record IsRow (line b r : List ℕ) : Type 0 where
  pub are : b ≡ line ++ 10 ∷ r
  pub in_a_line : has 10 line ≡ false

pub record IsCut (most : ℕ) (line b r : List ℕ) : Type 0 where
  pub are : b ≡ line ++ r
  pub in_a_line : has 10 line ≡ false
  pub said : is_passed line ≡ false
  pub is_long : most < length line

-- what stands next, and what is left behind it; a line that is cut has more than so many bytes
abbrev pub IsNextRow : ℕ → Row → List ℕ → List ℕ → Type 0
IsNextRow most End b r = (b ≡ []) × (r ≡ [])
IsNextRow most Passed b r = (line : List ℕ) × IsRow line b r × (is_passed line ≡ true)
IsNextRow most (Whole line) b r = IsRow line.items b r × (is_passed line.items ≡ false)
IsNextRow most Unended b r = (b ≢ []) × (has 10 b ≡ false)
IsNextRow most (Long line) b r = IsCut most line.items b r

-- the line that stands there is none of the format
pub record IsBadHere {A : Type 0} (is : A → Type 0) (text : A → List ℕ) (b : List ℕ) : Type 0 where
  pub line : List ℕ
  pub rest : List ℕ
  pub written : b ≡ line ++ rest
  pub in_a_line : has 10 line ≡ false
  pub is_bad : IsNoRow is text line rest

-- what the next line says, where `read` tells what a line says
abbrev pub IsNextLine : {A : Type 0} → (A → Type 0) → (A → List ℕ) → (List ℕ → Option A) → Next A → List ℕ → List ℕ → Type 0
IsNextLine is text read nexts.End b r = (b ≡ []) × (r ≡ [])
IsNextLine is text read nexts.Passed b r = (line : List ℕ) × IsRow line b r × (is_passed line ≡ true)
IsNextLine is text read (nexts.Said a) b r = (line : List ℕ) × IsRow line b r × (is_passed line ≡ false) × (read line ≡ Some a)
IsNextLine is text read nexts.Bad b r = IsBadHere is text b

-- what is said by a line that is whole and not passed over
abbrev pub IsSaidBy : {A : Type 0} → (List ℕ → Option A) → Next A → List ℕ → Type 0
IsSaidBy read nexts.End line = ⊥
IsSaidBy read nexts.Passed line = ⊥
IsSaidBy read (nexts.Said a) line = read line ≡ Some a
IsSaidBy read nexts.Bad line = read line ≡ None

-- ---- settle lines, which may have so many bytes in all

-- the bytes of a settle line, its line feed not counted
abbrev pub settle_size : Line → ℕ
settle_size (lines.Event e) = 0
settle_size (lines.Settle ws) = length (settle_text ws)

-- those that a line takes of the room for settle lines
abbrev pub settled_by : Next Line → ℕ
settled_by nexts.End = 0
settled_by nexts.Passed = 0
settled_by (nexts.Said l) = settle_size l
settled_by nexts.Bad = 0

-- the line is a settle with more bytes than there is room for
abbrev pub IsSettleOver : ℕ → List ℕ → Type 0
IsSettleOver room line = (ws : List ℕ) × (line_in line ≡ Some (lines.Settle ws)) × (room < length line)

-- a line begins there as a settle does, and has more bytes than there is room for
pub record IsLongSettle (room : ℕ) (b : List ℕ) : Type 0 where
  pub line : List ℕ
  pub rest : List ℕ
  pub written : b ≡ line ++ rest
  pub in_a_line : has 10 line ≡ false
  pub is_settle : behind (codes "settle") line ≢ None
  pub is_long : room < length line

-- why what a line says is not kept
abbrev pub IsSettleRefusal : ℕ → List ℕ → CommandRefusal → Type 0
IsSettleRefusal room line NoMemory = Unit {0}
IsSettleRefusal room line (Stopped code) = (code ≡ 41) × IsSettleOver room line
IsSettleRefusal room line (Failed failure) = ⊥
IsSettleRefusal room line (At code span) = ⊥
IsSettleRefusal room line (BadLine n) = ⊥
IsSettleRefusal room line (WrongJob n) = ⊥

-- why there is no next line: want of memory, where no read failed; or a failed read; `over` tells of what is left that there is no room for it
abbrev pub IsLineRefusal : (List ℕ → Type 0) → Option (List ℕ) → Counts → CommandRefusal → Type 0
IsLineRefusal over bytes reads NoMemory = reads.1 ≡ reads.0
IsLineRefusal over bytes reads (Stopped code) = (code ≡ 41) × IfSome bytes over
IsLineRefusal over bytes reads (Failed Read) = FailedIn reads
IsLineRefusal over bytes reads (Failed Write) = ⊥
IsLineRefusal over bytes reads (Failed Closed) = ⊥
IsLineRefusal over bytes reads (At code span) = ⊥
IsLineRefusal over bytes reads (BadLine n) = ⊥
IsLineRefusal over bytes reads (WrongJob n) = ⊥

-- behind its first bytes goes on a line that begins as a settle does, and the whole has more bytes than there is room for
abbrev pub GoesOnLong : ℕ → List ℕ → List ℕ → Type 0
GoesOnLong room begun b = (whole : List ℕ) → IsCut 70 begun whole b → IsLongSettle room whole

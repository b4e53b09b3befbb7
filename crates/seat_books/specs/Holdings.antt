-- Shares of the four ledgers of a book.
use Rattle.std.specs.Prelude.{◌≡◌, ℕ, ◌+◌}
use Rattle.event_log.specs.Books.{Totals}
use Rattle.event_log.specs.Laws.{plus}

abbrev pub totals_at : ℕ → ℕ → ℕ → ℕ → Totals
totals_at events given commits committed = record { events = events; given = given; commits = commits; committed = committed }

-- so many parts of each of the four, and what these count in their totals
pub record Holding : Type 0 where
  pub parts : ℕ
  pub book : Totals

abbrev pub holding : ℕ → Totals → Holding
holding parts book = record { parts = parts; book = book }

-- with so much more in it
abbrev pub with_added : Totals → Holding → Holding
with_added more h = record h { book = plus h.book more }

abbrev pub together : Holding → Holding → Holding
together h i = holding (h.parts + i.parts) (plus h.book i.book)

-- the four ledgers have as many parts
abbrev pub SameParts : ℕ → ℕ → ℕ → ℕ → Type 0
SameParts events given commits committed = (given ≡ events) × (commits ≡ events) × (committed ≡ events)

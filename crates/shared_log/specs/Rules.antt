-- The rule of a shared log, and what its step tells.
use Rattle.std.specs.Prelude.{◌≡◌, ◌==◌, ℕ, true, List, [], ◌∷◌, length, MatchBool}
use Rattle.logbook.specs.Pages.{Book, Cell, Named, Step, View}
use Rattle.log_entries.specs.declared.entry.Entry.{Entry}

-- the first word is the length of the log. A book has two words, of which this one leaves the second at 0
abbrev pub IsCounted : List Cell → List Entry → Type 0
IsCounted cells log = cells ≡ (length log, true) ∷ (0, true) ∷ []

-- the word of a book that counts its entries
abbrev pub word_of : Book → Named
word_of b = record { tracked = true; key = 0; book = b }

-- where as many entries were found as were seen, what is seen behind the step is this log; else the log is as long as was found
abbrev pub Becomes : List Entry → Step Entry → View Entry ℕ → ℕ → View Entry ℕ → Type 0
Becomes log s v found w = MatchBool (found == s.old) (w.0 ≡ log) (length w.0 ≡ found)

-- What is summed up of a seat's commits, entry by entry.
use Rattle.std.specs.Prelude.{ℕ, ◌+◌, ◌==◌, Bool, true, false, if◌then◌else◌, List, [], ◌∷◌}
use Rattle.event_log.specs.Entries.{Event, Commit, Entry, In}
use Rattle.event_log.specs.Events.{refused_next}
use Rattle.books.specs.declared.lines.Committed.{Committed}

-- how many commits of a seat were accepted, and the sum of the numbers of their jobs
pub record Sums : Type 0 where
  pub count : ℕ
  pub sum : ℕ

abbrev pub no_sums : Sums
no_sums = record { count = 0; sum = 0 }

abbrev pub plus : Sums → Sums → Sums
plus s t = record { count = s.count + t.count; sum = s.sum + t.sum }

abbrev pub sums_in : Committed → Sums
sums_in c = record { count = c.count; sum = c.sum }

-- what an event from that seat adds
abbrev pub added_by : Event → Bool → Sums
added_by (Commit j) true = record { count = 1; sum = j }
added_by e counts = no_sums

-- of an event from seat s
abbrev pub counts_for : ℕ → ℕ → Bool → Bool
counts_for seat s refused = if refused then false else (s == seat)

abbrev pub sums_of : ℕ → List Entry → Sums
sums_of seat [] = no_sums
sums_of seat (In e s ∷ rest) = plus (added_by e (counts_for seat s (refused_next rest))) (sums_of seat rest)
sums_of seat (x ∷ rest) = sums_of seat rest

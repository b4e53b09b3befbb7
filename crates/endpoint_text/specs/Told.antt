-- What is told entry by entry, and of events that were taken.
use Rattle.std.specs.Prelude.{ℕ, ◌+◌, Bool, List, [], ◌∷◌, ◌++◌, take}
use Rattle.event_log.specs.Entries.{Entry}
use Rattle.event_log.specs.Events.{refused_next}
use Rattle.why_text.specs.Moments.{Moment, moment_after}

-- what is said of the entries from a place of the log on, where `m` is the moment before them and `lines` are the lines of the events; of each with the
-- entries before it, its moment, and whether it is an event that was refused
abbrev pub told : (List Entry → Moment → Entry → Bool → List ℕ) → List ℕ → List Entry → ℕ → Moment → List Entry → List ℕ
told says lines log place m [] = []
told says lines log place m (x ∷ rest) =
    says (take place log) (moment_after lines m x) x (refused_next rest) ++ told says lines log (place + 1) (moment_after lines m x) rest

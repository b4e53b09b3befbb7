-- The attempts of a report as JSON: of each its name, its state and its worker.
use Rattle.std.specs.Prelude.{ℕ, List, [], ◌∷◌, if◌then◌else◌, codes}
use Rattle.serde_json.specs.Data.{Data, number, unsigned, string, object, member, no_members}
use Rattle.event_log.specs.Entries.{Attempt, Entry, Begun, main_attempt}
use Rattle.event_log.specs.Words.{same_attempt}
use Rattle.report_text.specs.of_report_lines.Texts.{attempt_text}
use Rattle.report_text.specs.of_report_lines.Attempts.{state_of}

abbrev pub attempt_data : List Entry → Attempt → ℕ → Data
attempt_data log a w =
    object (member (codes "attempt") (string (attempt_text a)) (member (codes "state") (string (state_of log a))
    (member (codes "worker") (number (unsigned w)) no_members)))

-- where another attempt than main's was begun
abbrev pub attempt_in : List Entry → Entry → List Data
attempt_in log (Begun a w) = if same_attempt a main_attempt then [] else attempt_data log a w ∷ []
attempt_in log _ = []

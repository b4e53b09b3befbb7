-- What a report says of attempts.
use Rattle.std.specs.Prelude.{◌≡◌, ℕ, Bool, true, false, if◌then◌else◌, List, [], ◌∷◌, ◌++◌, codes}
use Rattle.std.specs.Fmt.{decimal}
use Rattle.event_log.specs.Entries.{Attempt, Entry, Begun, main_attempt}
use Rattle.event_log.specs.Words.{same_attempt, accepts_of, ends_of, faults_of}
use Rattle.report_lines.specs.Sets.{has}
use Rattle.report_lines.specs.Texts.{attempt_text}
use Rattle.report_lines.specs.declared.attempts.AttemptStates.{AttemptStates}

-- whether there is one at all
abbrev pub any : {A : Type 0} → List A → Bool
any [] = false
any (x ∷ xs) = true

-- the first that holds
abbrev pub state_name : Bool → Bool → Bool → List ℕ
state_name accepted ended faulted =
    if accepted then codes "accepted" else (if ended then codes "ended" else (if faulted then codes "faulted" else codes "open"))

-- the attempt's state, by the whole log
abbrev pub state_of : List Entry → Attempt → List ℕ
state_of log a = state_name (any (accepts_of a log)) (any (ends_of a log)) (any (faults_of a log))

-- attempt A W STATE
abbrev pub attempt_line : List Entry → Attempt → ℕ → List ℕ
attempt_line log a w = codes "attempt " ++ (attempt_text a ++ (codes " w" ++ (decimal w ++ (codes " " ++ (state_of log a ++ codes "\n")))))

-- a line where another attempt than main's was begun
abbrev pub attempt_in : List Entry → Entry → List ℕ
attempt_in log (Begun a w) = if same_attempt a main_attempt then [] else attempt_line log a w
attempt_in log _ = []

-- the sets have the attempts that the log accepts, ends and faults
pub record AreStatesOf (states : AttemptStates) (log : List Entry) : Type 0 where
  pub accepted : (a : Attempt) → has states.accepted a ≡ any (accepts_of a log)
  pub ended : (a : Attempt) → has states.ended a ≡ any (ends_of a log)
  pub faulted : (a : Attempt) → has states.faulted a ≡ any (faults_of a log)

-- Attempts, with the functions that they run.
use Rattle.std.specs.Prelude.{ℕ, zero, suc, List, [], Option, Some, ◌++◌, codes}
use Rattle.std.specs.Fmt.{decimal}
use Rattle.meaning.specs.Values.{Birth, Task}
use Rattle.meaning.specs.Births.{Bearing, birth_at}
use Rattle.log_words.specs.of_event_log.Entries.{Attempt}
use Rattle.log_words.specs.of_report_lines.Texts.{attempt_text}
use Rattle.log_words.specs.declared.contents.Contents.{Contents}
use Rattle.log_words.specs.Calls.{call_text}

-- the function of a call; what was put, or was never born, has none
abbrev pub name_note : Option Birth → List ℕ
name_note (Some (Task g args depth retries others)) = codes " (" ++ (g ++ codes ")")
name_note _ = []

-- a1.1#0 (sq)
abbrev pub named_text : List Bearing → Attempt → List ℕ
named_text births a = attempt_text a ++ name_note (birth_at births a.object)

-- the call that an attempt runs
abbrev pub call_note : Contents → Option Birth → List ℕ
call_note how (Some (Task g args depth retries others)) = codes ": " ++ call_text how g args
call_note how _ = []

-- behind a later attempt of a task
abbrev pub again_note : ℕ → List ℕ
again_note zero = []
again_note (suc n) = codes " again"

-- w3 begins a1.1#1 again: sq(7)
abbrev pub begun_text : Contents → List Bearing → Attempt → ℕ → List ℕ
begun_text how births a w =
    codes "w" ++ (decimal w ++ (codes " begins " ++ (attempt_text a ++ (again_note a.number ++ call_note how (birth_at births a.object)))))

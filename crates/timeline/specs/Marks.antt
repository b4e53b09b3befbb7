-- The names of rows, and what happens in a moment.
use Rattle.std.specs.Prelude.{ℕ, Bool, if◌then◌else◌, List, [], ◌∷◌, ◌++◌, codes}
use Rattle.serde_json.specs.Data.{Data, number, unsigned, string, object, member, no_members}
use Rattle.report.specs.ValueTexts.{id_text}
use Rattle.ids.specs.Texts.{worker_text}
use Rattle.log_entries.specs.declared.event.Event.{Event}
use Rattle.log_entries.specs.declared.event.Event.TheVariants.{Lose, KillNode}
use Rattle.event_log.specs.Entries.{Entry, In, Opened}

-- the name of a node, or of a row
abbrev pub name_data : List ℕ → List ℕ → ℕ → ℕ → Data
name_data name kind node worker =
    object (member (codes "args") (object (member (codes "name") (string name) no_members)) (member (codes "name") (string kind)
    (member (codes "ph") (string (codes "M")) (member (codes "pid") (number (unsigned node)) (member (codes "tid") (number (unsigned worker)) no_members)))))

-- a death or a loss; at a node, in no worker's row, the scope is p
abbrev pub mark_data : List ℕ → List ℕ → ℕ → ℕ → ℕ → Data
mark_data name scope node worker clock =
    object (member (codes "cat") (string (codes "failure")) (member (codes "name") (string name) (member (codes "ph") (string (codes "i"))
    (member (codes "pid") (number (unsigned node)) (member (codes "s") (string scope) (member (codes "tid") (number (unsigned worker))
    (member (codes "ts") (number (unsigned clock)) no_members)))))))

abbrev pub event_marks : ℕ → Event → List Data
event_marks clock (Lose n o) = mark_data (codes "loses " ++ id_text o) (codes "p") n 0 clock ∷ []
event_marks clock (KillNode n) = mark_data (codes "dies") (codes "p") n 0 clock ∷ []
event_marks clock _ = []

-- what an entry adds in no worker's row
abbrev pub entry_marks : ℕ → Entry → Bool → List Data
entry_marks clock (Opened w n) refused = name_data (worker_text w) (codes "thread_name") n w ∷ []
entry_marks clock (In e seat) refused = if refused then [] else event_marks clock e
entry_marks clock _ refused = []

-- The spans in a worker's row: the attempts that it runs, and the gets for which they wait.
use Rattle.std.specs.Prelude.{ℕ, ◌-◌, ◌==◌, if◌then◌else◌, List, [], ◌∷◌, Option, Some, None, codes}
use Rattle.serde_json.specs.Data.{Data, number, unsigned, string, object, member, no_members}
use Rattle.meaning.specs.Values.{Birth, Put, Task}
use Rattle.meaning.specs.Births.{Bearing, birth_at}
use Rattle.event_log.specs.Entries.{Attempt}
use Rattle.report_text.specs.of_report_lines.Texts.{attempt_text}
use Rattle.log_words.specs.declared.contents.Contents.{Contents}
use Rattle.log_words.specs.Calls.{call_text}
use Rattle.timeline.specs.declared.rows.Row.{Row}
use Rattle.timeline.specs.declared.rows.Running.{Running}

-- the attempt, and how the span ended
abbrev pub args_data : Attempt → List ℕ → Data
args_data a ending = object (member (codes "attempt") (string (attempt_text a)) (member (codes "end") (string ending) no_members))

-- from one event to another, in the row of a worker
abbrev pub span_data : List ℕ → List ℕ → Data → ℕ → Row → ℕ → Data
span_data name category args since r clock =
    object (member (codes "args") args (member (codes "cat") (string category) (member (codes "dur") (number (unsigned (clock - since)))
    (member (codes "name") (string name) (member (codes "ph") (string (codes "X")) (member (codes "pid") (number (unsigned r.node))
    (member (codes "tid") (number (unsigned r.worker)) (member (codes "ts") (number (unsigned since)) no_members))))))))

-- the call that an attempt runs; one of an object that was never born, which no legal log has, is named by itself
abbrev pub called : Contents → Attempt → Option Birth → List ℕ
called how a (Some (Task g args depth retries others)) = call_text how g args
called how a (Some (Put v)) = attempt_text a
called how a None = attempt_text a

abbrev pub running_spans : Contents → List Bearing → ℕ → List ℕ → Row → Option Running → List Data
running_spans how births clock ending r None = []
running_spans how births clock ending r (Some x) =
    span_data (called how x.attempt (birth_at births x.attempt.object)) (codes "attempt") (args_data x.attempt ending)
    x.since r clock ∷ []

-- the attempt that the row's worker runs, up to this event
abbrev pub attempt_spans : Contents → List Bearing → ℕ → List ℕ → Row → List Data
attempt_spans how births clock ending r = running_spans how births clock ending r r.running

-- no wait that ends in the event in which it began is shown
abbrev pub waiting_spans : ℕ → List ℕ → List ℕ → Row → Attempt → Option ℕ → List Data
waiting_spans clock name ending r a None = []
waiting_spans clock name ending r a (Some since) = if since == clock then [] else span_data name (codes "get") (args_data a ending) since r clock ∷ []

abbrev pub waits_spans : ℕ → List ℕ → List ℕ → Row → Option Running → List Data
waits_spans clock name ending r None = []
waits_spans clock name ending r (Some x) = waiting_spans clock name ending r x.attempt x.waits

-- the get for which the attempt waits, up to this event
abbrev pub wait_spans : ℕ → List ℕ → List ℕ → Row → List Data
wait_spans clock name ending r = waits_spans clock name ending r r.running

-- The spans that end with an entry.
use Rattle.std.specs.Prelude.{ℕ, Bool, if◌then◌else◌, List, [], ◌∷◌, ◌++◌, ◌==◌, codes}
use Rattle.serde_json.specs.Data.{Data}
use Rattle.meaning.specs.Values.{Id}
use Rattle.meaning.specs.Births.{Bearing}
use Rattle.report.specs.ValueTexts.{id_text}
use Rattle.log_entries.specs.declared.event.Event.{Event}
use Rattle.log_entries.specs.declared.event.Event.TheVariants.{Kill, KillNode}
use Rattle.event_log.specs.Entries.{Entry, In, Got, Ended, Faulted}
use Rattle.report_text.specs.of_report_lines.Texts.{fault_text}
use Rattle.log_words.specs.declared.contents.Contents.{Contents}
use Rattle.log_words.specs.Contents.{content_text, contents_text}
use Rattle.timeline.specs.declared.rows.Row.{Row}
use Rattle.timeline.specs.Rows.{runs}
use Rattle.timeline.specs.Spans.{attempt_spans, wait_spans}
use Rattle.timeline.specs.Marks.{mark_data}

abbrev pub get_name : Id → List ℕ
get_name o = codes "get " ++ id_text o

-- a wait and the attempt, both up to this event
abbrev pub both_spans : Contents → List Bearing → ℕ → List ℕ → List ℕ → Row → List Data
both_spans how births clock name ending r = wait_spans clock name ending r ++ attempt_spans how births clock ending r

-- the worker dies
abbrev pub death_data : Contents → List Bearing → ℕ → Row → List Data
death_data how births clock r =
    both_spans how births clock (codes "get") (codes "killed") r ++ mark_data (codes "dies") (codes "t") r.node r.worker clock ∷ []

abbrev pub event_data : Contents → List Bearing → ℕ → Event → Row → List Data
event_data how births clock (Kill w) r = if w == r.worker then death_data how births clock r else []
event_data how births clock (KillNode n) r = if n == r.node then death_data how births clock r else []
event_data how births clock _ r = []

-- what an entry adds in a row; `how` says whether long lists are cut, and `refused` says of an event that it is refused
abbrev pub row_data : Contents → List Bearing → ℕ → Entry → Bool → Row → List Data
row_data how births clock (Got a y c) refused r = if runs a r then wait_spans clock (get_name y) (content_text how c) r else []
row_data how births clock (Ended a cs) refused r = if runs a r then attempt_spans how births clock (contents_text how cs) r else []
row_data how births clock (Faulted a y f) refused r =
    if runs a r then both_spans how births clock (get_name y) (fault_text f) r else []
row_data how births clock (In e seat) refused r = if refused then [] else event_data how births clock e r
row_data how births clock _ refused r = []

-- what stands open at the end of the log
abbrev pub open_data : Contents → List Bearing → ℕ → Row → List Data
open_data how births clock r = both_spans how births clock (codes "get") (codes "open") r

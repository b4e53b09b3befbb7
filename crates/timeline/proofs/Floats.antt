-- No timeline has a float.
use Rattle.std.proofs.Common.{◌≡◌, ◌+◌, ◌-◌, ℕ, zero, suc, Bool, true, false, List, [], ◌∷◌, ◌++◌, Option, Some, None, map, refl, ap}
use Rattle.std.specs.Prelude.{if◌then◌else◌, ◌||◌, ◌==◌, codes}
use Rattle.std.specs.List.{flat_map}
use Rattle.serde_json.specs.Data.{Data}
use Rattle.serde_json.specs.View.{items_of}
use Rattle.serde_json.specs.Written.{has_float, items_have_float}
use Rattle.meaning.specs.Births.{Bearing}
use Rattle.event_log.specs.Events.{refused_next}
use Rattle.event_log.specs.Words.{births}
use Rattle.log_entries.specs.Texts.{event_text}
use Rattle.log_entries.specs.declared.event.Event.{Event}
use Rattle.log_entries.specs.declared.event.Event.TheVariants as events
use Rattle.event_log.specs.Entries.{Attempt, Entry}
use Rattle.event_log.specs.Entries as entries
use Rattle.report_text.specs.of_report_lines.Texts.{fault_text}
use Rattle.log_words.specs.declared.contents.Contents.{Contents}
use Rattle.log_words.specs.Contents.{content_text, contents_text}
use Rattle.log_words.specs.Told.{Told, nothing_told}
use Rattle.timeline.specs.declared.rows.Row.{Row}
use Rattle.timeline.specs.declared.rows.Running.{Running}
use Rattle.timeline.specs.Rows.{runs}
use Rattle.timeline.specs.Spans.{attempt_spans, running_spans, wait_spans, waits_spans, waiting_spans}
use Rattle.timeline.specs.Marks.{mark_data, event_marks, entry_marks}
use Rattle.timeline.specs.Endings.{get_name, both_spans, death_data, event_data, row_data, open_data}
use Rattle.protocol_data.specs.declared.message.Envelope.{Envelope}
use Rattle.protocol_data.specs.declared.message.Endpoint.{Endpoint}
use Rattle.message_text.specs.Sent.{sent_behind}
use Rattle.timeline.specs.Told.{told_with}
use Rattle.timeline.specs.Nodes.{greatest_node, names_of, node_names}
use Rattle.timeline.specs.Endpoints.{envelope_at, receivers, with_senders}
use Rattle.timeline.specs.Arrivals.{arrivals_in}
use Rattle.timeline.specs.Arrows.{short_data, begin_data, envelope_end, arrow_ends, arrow_begins, own_envelopes, short_spans, arrows}
use Rattle.timeline.specs.Arrows.{event_arrows, entry_arrows, arrival}
use Rattle.timeline.specs.Entries.{entry_data, rows_after, whole_data, entries_data}
use Rattle.timeline.specs.Text.{timeline_data}

abbrev ArePlain : List Data → Type 0
ArePlain ds = items_have_float (items_of ds) ≡ false

appended : (xs ys : List Data) → ArePlain xs → ArePlain ys → ArePlain (xs ++ ys)
appended [] ys h k = k
appended (x ∷ xs) ys h k = by_test (has_float x) (appended xs ys) h k
  where
    by_test : (t : Bool) → (ArePlain xs → ArePlain ys → ArePlain (xs ++ ys)) →
        (t || items_have_float (items_of xs)) ≡ false → ArePlain ys → (t || items_have_float (items_of (xs ++ ys))) ≡ false
    by_test true r h k = h
    by_test false r h k = r h k

chosen : (t : Bool) (xs ys : List Data) → ArePlain xs → ArePlain ys → ArePlain (if t then xs else ys)
chosen true xs ys h k = h
chosen false xs ys h k = k

all_plain : {X : Type 0} (f : X → List Data) → ((x : X) → ArePlain (f x)) → (xs : List X) → ArePlain (flat_map f xs)
all_plain f h [] = refl
all_plain f h (x ∷ xs) = appended (f x) (flat_map f xs) (h x) (all_plain f h xs)

running_plain : (how : Contents) (births : List Bearing) (clock : ℕ) (ending : List ℕ) (r : Row) (x : Option Running) → ArePlain (running_spans how births clock ending r x)
running_plain how births clock ending r None = refl
running_plain how births clock ending r (Some x) = refl

waiting_plain : (clock : ℕ) (name ending : List ℕ) (r : Row) (a : Attempt) (w : Option ℕ) → ArePlain (waiting_spans clock name ending r a w)
waiting_plain clock name ending r a None = refl
waiting_plain clock name ending r a (Some since) = chosen (since == clock) _ _ refl refl

waits_plain : (clock : ℕ) (name ending : List ℕ) (r : Row) (x : Option Running) → ArePlain (waits_spans clock name ending r x)
waits_plain clock name ending r None = refl
waits_plain clock name ending r (Some x) = waiting_plain clock name ending r x.attempt x.waits

attempt_plain : (how : Contents) (births : List Bearing) (clock : ℕ) (ending : List ℕ) (r : Row) → ArePlain (attempt_spans how births clock ending r)
attempt_plain how births clock ending r = running_plain how births clock ending r r.running

wait_plain : (clock : ℕ) (name ending : List ℕ) (r : Row) → ArePlain (wait_spans clock name ending r)
wait_plain clock name ending r = waits_plain clock name ending r r.running

both_plain : (how : Contents) (births : List Bearing) (clock : ℕ) (name ending : List ℕ) (r : Row) → ArePlain (both_spans how births clock name ending r)
both_plain how births clock name ending r =
    appended (wait_spans clock name ending r) (attempt_spans how births clock ending r) (wait_plain clock name ending r) (attempt_plain how births clock ending r)

death_plain : (how : Contents) (births : List Bearing) (clock : ℕ) (r : Row) → ArePlain (death_data how births clock r)
death_plain how births clock r =
    appended (both_spans how births clock (codes "get") (codes "killed") r) (mark_data (codes "dies") (codes "t") r.node r.worker clock ∷ [])
    (both_plain how births clock (codes "get") (codes "killed") r) refl

event_plain : (how : Contents) (births : List Bearing) (clock : ℕ) (e : Event) (r : Row) → ArePlain (event_data how births clock e r)
event_plain how births clock (events.Kill w) r = chosen (w == r.worker) _ _ (death_plain how births clock r) refl
event_plain how births clock (events.KillNode n) r = chosen (n == r.node) _ _ (death_plain how births clock r) refl
event_plain how births clock _ r = refl

row_plain : (how : Contents) (births : List Bearing) (clock : ℕ) (x : Entry) (refused : Bool) (r : Row) → ArePlain (row_data how births clock x refused r)
row_plain how births clock (entries.Got a y c) refused r =
    chosen (runs a r) _ _ (wait_plain clock (get_name y) (content_text how c) r) refl
row_plain how births clock (entries.Ended a cs) refused r = chosen (runs a r) _ _ (attempt_plain how births clock (contents_text how cs) r) refl
row_plain how births clock (entries.Faulted a y f) refused r =
    chosen (runs a r) _ _ (both_plain how births clock (get_name y) (fault_text f) r) refl
row_plain how births clock (entries.In e seat) refused r = chosen refused [] (event_data how births clock e r) refl (event_plain how births clock e r)
row_plain how births clock _ refused r = refl

open_plain : (how : Contents) (births : List Bearing) (clock : ℕ) (r : Row) → ArePlain (open_data how births clock r)
open_plain how births clock r = both_plain how births clock (codes "get") (codes "open") r

event_marks_plain : (clock : ℕ) (e : Event) → ArePlain (event_marks clock e)
event_marks_plain clock (events.Lose n o) = refl
event_marks_plain clock (events.KillNode n) = refl
event_marks_plain clock _ = refl

marks_plain : (clock : ℕ) (x : Entry) (refused : Bool) → ArePlain (entry_marks clock x refused)
marks_plain clock (entries.Opened w n) refused = refl
marks_plain clock (entries.In e seat) refused = chosen refused [] (event_marks clock e) refl (event_marks_plain clock e)
marks_plain clock _ refused = refl

entry_plain : (how : Contents) (births : List Bearing) (clock : ℕ) (rows : List Row) (x : Entry) (refused : Bool) → ArePlain (entry_data how births clock rows x refused)
unfolding entry_data
entry_plain how births clock rows x refused =
    appended (flat_map (row_data how births clock x refused) rows) (entry_marks clock x refused)
    (all_plain (row_data how births clock x refused) (row_plain how births clock x refused) rows) (marks_plain clock x refused)

-- ---- messages

shorts_plain : (name : List ℕ) (rows : List Row) (clock : ℕ) (ps : List Endpoint) → ArePlain (map (short_data name rows clock) ps)
shorts_plain name rows clock [] = refl
shorts_plain name rows clock (p ∷ ps) = shorts_plain name rows clock ps

envelope_plain : (rows : List Row) (clock m : ℕ) (l : Option Envelope) → ArePlain (envelope_end rows clock m l)
envelope_plain rows clock m None = refl
envelope_plain rows clock m (Some l) = refl

ends_plain : (envelopes : List Envelope) (arrivals : List ℕ) (rows : List Row) (clock : ℕ) (e : Event) → ArePlain (arrow_ends envelopes arrivals rows clock e)
ends_plain envelopes arrivals rows clock (events.Deliver m) =
    chosen (arrival arrivals (m - 1) == clock) (envelope_end rows clock m (envelope_at envelopes m)) [] (envelope_plain rows clock m (envelope_at envelopes m)) refl
ends_plain envelopes arrivals rows clock _ = refl

begins_plain : (arrivals : List ℕ) (rows : List Row) (clock k : ℕ) (ls : List Envelope) → ArePlain (arrow_begins arrivals rows clock k ls)
begins_plain arrivals rows clock k [] = refl
begins_plain arrivals rows clock k (l ∷ ls) =
    appended (if arrival arrivals k == 0 then [] else begin_data rows clock (k + 1) l ∷ []) (arrow_begins arrivals rows clock (k + 1) ls)
    (chosen (arrival arrivals k == 0) [] (begin_data rows clock (k + 1) l ∷ []) refl refl) (begins_plain arrivals rows clock (k + 1) ls)

event_arrows_plain : (envelopes : List Envelope) (sent arrivals : List ℕ) (rows : List Row) (clock : ℕ) (e : Event) →
    ArePlain (event_arrows envelopes sent arrivals rows clock e)
event_arrows_plain envelopes sent arrivals rows clock e =
    let own : List Envelope = own_envelopes envelopes sent clock in
    let before : ℕ = sent_behind sent (clock - 1) in
    appended (short_spans envelopes sent rows clock e) (arrows envelopes sent arrivals rows clock e)
    (shorts_plain (event_text e) rows clock (with_senders (receivers envelopes e) own))
    (appended (arrow_ends envelopes arrivals rows clock e) (arrow_begins arrivals rows clock before own)
    (ends_plain envelopes arrivals rows clock e) (begins_plain arrivals rows clock before own))

entry_arrows_plain : (envelopes : List Envelope) (sent arrivals : List ℕ) (rows : List Row) (clock : ℕ) (x : Entry) (refused : Bool) →
    ArePlain (entry_arrows envelopes sent arrivals rows clock x refused)
entry_arrows_plain envelopes sent arrivals rows clock (entries.In e seat) refused =
    chosen refused [] (event_arrows envelopes sent arrivals rows clock e) refl (event_arrows_plain envelopes sent arrivals rows clock e)
entry_arrows_plain envelopes sent arrivals rows clock _ refused = refl

whole_plain : (how : Contents) (births : List Bearing) (envelopes : List Envelope) (sent arrivals : List ℕ) (clock : ℕ) (rows : List Row) (x : Entry) (refused : Bool) →
    ArePlain (whole_data how births envelopes sent arrivals clock rows x refused)
unfolding whole_data
whole_plain how births envelopes sent arrivals clock rows x refused =
    appended (entry_data how births clock rows x refused) (entry_arrows envelopes sent arrivals rows clock x refused)
    (entry_plain how births clock rows x refused) (entry_arrows_plain envelopes sent arrivals rows clock x refused)

entries_plain : (how : Contents) (births : List Bearing) (envelopes : List Envelope) (sent arrivals : List ℕ) (told : Told) (rows : List Row) (log : List Entry) →
    ArePlain (entries_data how births envelopes sent arrivals told rows log)
entries_plain how births envelopes sent arrivals told rows [] = all_plain (open_data how births told.events) (open_plain how births told.events) rows
entries_plain how births envelopes sent arrivals told rows (x ∷ rest) =
    let now : Told = told_with told x rest in
    let refused : Bool = refused_next rest in
    let next : List Row = rows_after now rows x refused in
    appended (whole_data how births envelopes sent arrivals now.events rows x refused) (entries_data how births envelopes sent arrivals now next rest)
    (whole_plain how births envelopes sent arrivals now.events rows x refused) (entries_plain how births envelopes sent arrivals now next rest)

names_plain : (n : ℕ) → ArePlain (names_of n)
names_plain zero = refl
names_plain (suc n) = appended (names_of n) (node_names (suc n)) (names_plain n) refl

-- ---- the whole

beside_nothing : (t : Bool) → t ≡ false → (t || false) ≡ false
beside_nothing t h = ap (λ b. b || false) h

pub timeline_plain : (how : Contents) (log : List Entry) (envelopes : List Envelope) (sent : List ℕ) → has_float (timeline_data how log envelopes sent) ≡ false
timeline_plain how log envelopes sent =
    let arrivals : List ℕ = arrivals_in envelopes sent log in
    let names : List Data = names_of (greatest_node envelopes log) in
    let added : List Data = entries_data how (births log) envelopes sent arrivals nothing_told [] log in
    beside_nothing _ (appended names added (names_plain (greatest_node envelopes log))
    (entries_plain how (births log) envelopes sent arrivals nothing_told [] log))

-- The text of a list is an event file: a comment, the events, and a settle.
use Rattle.std.proofs.Common.{◌≡◌, ℕ, zero, suc, ◌<◌, ◌^◌, ◌==◌, Bool, true, false, List, [], ◌∷◌, ◌++◌, take, drop, Option, Some, None, refl, sym, ap, ◌∙◌, arith}
use Rattle.std.specs.Prelude.{IfSome, codes, if◌then◌else◌}
use Rattle.std.specs.Fmt.{decimal}
use Rattle.std.proofs.lemmas.List.{append_assoc}
use Rattle.event_log.specs.Entries.{Event, FaultKind, OwnerDied, PutLost, RetriesUsed}
use Rattle.log_entries.specs.Texts.{event_text}
use Rattle.event_files.specs.Files.{IsFile, Row, Passed, Said, AreRows, all_said, rows_text}
use Rattle.event_files.specs.Lines.{AreEvents, IsEvent, IsLine, line_text}
use Rattle.event_files.specs.Printing.{event_line, events_text}
use Rattle.event_files.specs.Reading.{has}
use Rattle.event_files.specs.declared.line.Line.{Line}
use Rattle.event_files.specs.declared.line.Line.TheVariants as lines
use Rattle.event_files.proofs.Marks.{has-append, no_mark_in_decimal}
use Rattle.event_files.proofs.Readers.{reads_lines}
use Rattle.ids.specs.Texts.{IsObject}
use Rattle.meaning.specs.Values.{Id}
use Rattle.report.specs.ValueTexts.{id_text}
use Rattle.report_text.specs.of_report_lines.Texts.{fault_text, kind_name}
use Rattle.faulted_history.specs.History.{event_list, fault_events, notice_in}
use Rattle.fault_lists.specs.Lists.{event_lines}
use Rattle.fault_lists.specs.Tables.{AreTold, EndFits, end_text, fault_list_text, list_file, list_text, notice_text, place_text}
use Rattle.fault_lists.specs.declared.ending.RunEnd.{RunEnd}
use Rattle.fault_lists.specs.declared.ending.RunEnd.TheVariants as ends
use Rattle.fault_lists.specs.declared.tried.Tried.{Tried}

-- ---- the comment is one line

abbrev OneLine : List ℕ → Type 0
OneLine text = has 10 text ≡ false

number : (n : ℕ) → n < 2 ^ 64 → OneLine (decimal n)
number n h = no_mark_in_decimal 10 n (omega arith) h

event : (e : Event) → IsEvent e → OneLine (event_text e)
event e h = reads_lines.in_a_line (lines.Event e) h

notice : (n : Option Event) → IfSome n IsEvent → OneLine (notice_text n)
notice None h = refl
notice (Some e) h = has-append 10 (codes " and ") (event_text e) refl (event e h)

place : (n : ℕ) → n < 2 ^ 64 → OneLine (place_text n)
place n h = by_test (n == 0)
  where
    by_test : (b : Bool) → OneLine (if b then codes " before event 1" else codes " behind event " ++ decimal n)
    by_test true = refl
    by_test false = has-append 10 (codes " behind event ") (decimal n) refl (number n h)

kind : (k : FaultKind) → OneLine (kind_name k)
kind OwnerDied = refl
kind PutLost = refl
kind RetriesUsed = refl

object : (o : Id) → IsObject o → OneLine (id_text o)
object o h =
    has-append 10 (codes "o") (decimal o.owner ++ (codes "." ++ decimal o.serial)) refl
    (has-append 10 (decimal o.owner) (codes "." ++ decimal o.serial) (number o.owner (omega (arith, h.0)))
    (has-append 10 (codes ".") (decimal o.serial) refl (number o.serial h.1)))

end : (e : RunEnd) → EndFits e → OneLine (end_text e)
end ends.AsSerial h = refl
end (ends.Faulted f) h =
    has-append 10 (codes "main fault ") (fault_text f) refl
    (has-append 10 (kind_name f.kind) (codes " " ++ id_text f.object) (kind f.kind) (has-append 10 (codes " ") (id_text f.object) refl (object f.object h)))
end ends.Open h = refl
end ends.Killed h = refl
end ends.Stopped h = refl

told : (t : Tried) → AreTold t → OneLine (list_text t)
told t h =
    has-append 10 (fault_list_text t.list) (codes ": " ++ end_text t.end)
    (has-append 10 (event_text t.list.fault) (notice_text t.list.notice ++ place_text t.list.place) (event t.list.fault h.fault)
    (has-append 10 (notice_text t.list.notice) (place_text t.list.place) (notice t.list.notice h.notice) (place t.list.place h.place)))
    (has-append 10 (codes ": ") (end_text t.end) refl (end t.end h.end))

-- ---- the events fit

abbrev Fit : List Event → Type 0
Fit es = AreEvents es

both_fit : (xs ys : List Event) → Fit xs → Fit ys → Fit (xs ++ ys)
both_fit [] ys h k = k
both_fit (x ∷ xs) ys h k = (h.0, both_fit xs ys h.1 k)

first_fit : (n : ℕ) (xs : List Event) → Fit xs → Fit (take n xs)
first_fit zero xs h = tt
first_fit (suc n) [] h = tt
first_fit (suc n) (x ∷ xs) h = (h.0, first_fit n xs h.1)

rest_fit : (n : ℕ) (xs : List Event) → Fit xs → Fit (drop n xs)
rest_fit zero xs h = h
rest_fit (suc n) [] h = tt
rest_fit (suc n) (x ∷ xs) h = rest_fit n xs h.1

notice_fit : (n : Option Event) → IfSome n IsEvent → Fit (notice_in n)
notice_fit None h = tt
notice_fit (Some e) h = (h, tt)

all_fit : (events : List Event) (t : Tried) → AreEvents events → AreTold t → Fit (event_list events t.list)
all_fit events t h k =
    let l = t.list in
    both_fit (take l.place events) (fault_events l ++ drop l.place events) (first_fit l.place events h)
    (both_fit (fault_events l) (drop l.place events) (k.fault, notice_fit l.notice k.notice) (rest_fit l.place events h))

-- ---- the rows

abbrev rows_of : List Event → List (Row Line)
rows_of [] = Said (lines.Settle []) ∷ []
rows_of (e ∷ es) = Said (lines.Event e) ∷ rows_of es

rows_are : (es : List Event) → Fit es → AreRows IsLine (rows_of es)
rows_are [] h = (tt, tt)
rows_are (e ∷ es) h = (h.0, rows_are es h.1)

rows_say : (es : List Event) → event_lines es ≡ all_said (rows_of es)
rows_say [] = refl
rows_say (e ∷ es) = ap (λ z. lines.Event e ∷ z) (rows_say es)

rows_written : (es : List Event) → events_text es ++ codes "settle\n" ≡ rows_text line_text (rows_of es)
rows_written [] = refl
rows_written (e ∷ es) =
    append_assoc (event_line e) (events_text es) (codes "settle\n")
    ∙ append_assoc (event_text e) (10 ∷ []) (events_text es ++ codes "settle\n")
    ∙ ap (λ z. event_text e ++ 10 ∷ z) (rows_written es)

comment : (text rest : List ℕ) → codes "# " ++ (text ++ (codes "\n" ++ rest)) ≡ (codes "# " ++ text) ++ 10 ∷ rest
comment text rest = sym (append_assoc (codes "# ") text (10 ∷ rest))

pub list_is_file : (events : List Event) (t : Tried) → AreEvents events → AreTold t →
    IsFile IsLine line_text (list_file events t) (event_lines (event_list events t.list))
list_is_file events t h k =
    let es = event_list events t.list in
    record {
      rows = Passed (codes "# " ++ list_text t) ∷ rows_of es;
      are_rows = ((refl, has-append 10 (codes "# ") (list_text t) refl (told t k)), rows_are es (all_fit events t h k));
      written = comment (list_text t) (events_text es ++ codes "settle\n") ∙ ap (λ z. (codes "# " ++ list_text t) ++ 10 ∷ z) (rows_written es);
      said = rows_say es;
    }

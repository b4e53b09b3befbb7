-- No report has a float.
use Rattle.std.proofs.Common.{◌≡◌, Bool, true, false, List, [], ◌∷◌, ◌++◌, Option, Some, None, refl, ap, ◌∙◌}
use Rattle.std.specs.Prelude.{if◌then◌else◌, pos, negsuc, ◌||◌}
use Rattle.std.specs.List.{flat_map}
use Rattle.serde_json.specs.Data.{Data}
use Rattle.serde_json.specs.View.{items_of}
use Rattle.serde_json.specs.Written.{has_float, items_have_float}
use Rattle.meaning.specs.Values.{Value, Int, Items as AList, Named, Known, Values, none, more, Outcome, Val, Trapped}
use Rattle.event_log.specs.Entries.{Fault, Event, Entry, Begun, Printed, Resolved, Released, Refused, main_attempt}
use Rattle.event_log.specs.Words.{same_attempt}
use Rattle.report_text.specs.of_report_lines.Main.{main_end, main_fault}
use Rattle.report_text.specs.of_report_lines.Refusals.{last_in}
use Rattle.report_json.specs.Values.{value_data, values_data}
use Rattle.report_json.specs.Main.{main_data}
use Rattle.report_json.specs.Attempts.{attempt_data, attempt_in}
use Rattle.report_json.specs.Objects.{print_in, release_in, resolve_in}
use Rattle.report_json.specs.Refusals.{refused_in, refused_data}
use Rattle.report_json.specs.Report.{report_data}

mutual
  value_plain : (v : Value) → has_float (value_data v) ≡ false
  value_plain (Int (pos n)) = refl
  value_plain (Int (negsuc n)) = refl
  value_plain (AList vs) = values_plain vs
  value_plain (Named o) = refl
  value_plain (Known c) = refl

  values_plain : (vs : Values) → items_have_float (values_data vs) ≡ false
  values_plain none = refl
  values_plain (more v vs) = ap (λ t. t || items_have_float (values_data vs)) (value_plain v) ∙ values_plain vs

appended : (xs ys : List Data) → items_have_float (items_of xs) ≡ false → items_have_float (items_of ys) ≡ false → items_have_float (items_of (xs ++ ys)) ≡ false
appended [] ys h k = k
appended (x ∷ xs) ys h k = by_test (has_float x) (appended xs ys) h k
  where
    by_test : (t : Bool) → (items_have_float (items_of xs) ≡ false → items_have_float (items_of ys) ≡ false → items_have_float (items_of (xs ++ ys)) ≡ false) →
        (t || items_have_float (items_of xs)) ≡ false → items_have_float (items_of ys) ≡ false → (t || items_have_float (items_of (xs ++ ys))) ≡ false
    by_test true r h k = h
    by_test false r h k = r h k

all_plain : (f : Entry → List Data) → ((e : Entry) → items_have_float (items_of (f e)) ≡ false) → (log : List Entry) → items_have_float (items_of (flat_map f log)) ≡ false
all_plain f h [] = refl
all_plain f h (e ∷ log) = appended (f e) (flat_map f log) (h e) (all_plain f h log)

one_plain : (d : Data) → has_float d ≡ false → items_have_float (items_of (d ∷ [])) ≡ false
one_plain d h = ap (λ t. t || false) h

attempt_plain : (log : List Entry) (e : Entry) → items_have_float (items_of (attempt_in log e)) ≡ false
attempt_plain log (Begun a w) = by_test (same_attempt a main_attempt)
  where
    by_test : (t : Bool) → items_have_float (items_of (if t then [] else attempt_data log a w ∷ [])) ≡ false
    by_test true = refl
    by_test false = refl
attempt_plain log _ = refl

print_plain : (e : Entry) → items_have_float (items_of (print_in e)) ≡ false
print_plain (Printed v) = one_plain (value_data v) (value_plain v)
print_plain _ = refl

release_plain : (e : Entry) → items_have_float (items_of (release_in e)) ≡ false
release_plain (Released o) = refl
release_plain _ = refl

resolve_plain : (e : Entry) → items_have_float (items_of (resolve_in e)) ≡ false
resolve_plain (Resolved o f) = refl
resolve_plain _ = refl

refused_plain : (last : Option Event) (e : Entry) → items_have_float (items_of (refused_in last e)) ≡ false
refused_plain (Some x) (Refused r) = refl
refused_plain None (Refused r) = refl
refused_plain _ _ = refl

refusals_plain : (last : Option Event) (log : List Entry) → items_have_float (items_of (refused_data last log)) ≡ false
refusals_plain last [] = refl
refusals_plain last (e ∷ log) = appended (refused_in last e) (refused_data (last_in last e) log) (refused_plain last e) (refusals_plain (last_in last e) log)

main_plain : (end : Option Outcome) (fault : Option Fault) → has_float (main_data end fault) ≡ false
main_plain (Some (Val v)) fault = ap (λ t. t || false) (value_plain v)
main_plain (Some (Trapped t)) fault = refl
main_plain None (Some f) = refl
main_plain None None = refl

six : (a b c d e f : Bool) → a ≡ false → b ≡ false → c ≡ false → d ≡ false → e ≡ false → f ≡ false → (a || (b || (c || (d || (e || (f || false)))))) ≡ false
six a b c d e f p q r s t u = rw (p, q, r, s, t, u) refl

pub report_plain : (log : List Entry) → has_float (report_data log) ≡ false
report_plain log =
    six _ _ _ _ _ _ (all_plain (attempt_in log) (attempt_plain log) log) (main_plain (main_end log) (main_fault log)) (all_plain print_in print_plain log)
    (refusals_plain None log) (all_plain release_in release_plain log) (all_plain resolve_in resolve_plain log)

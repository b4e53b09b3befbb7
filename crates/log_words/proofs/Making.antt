-- The birth that makes an object.
use Rattle.std.proofs.Common.{◌≡◌, Bool, true, false, List, [], ◌∷◌, ◌++◌, Option, Some, None, refl, sym, ap, ◌∙◌, subst, arith}
use Rattle.std.specs.Prelude.{if◌then◌else◌}
use Rattle.std.specs.List.{flat_map}
use Rattle.std.proofs.lemmas.Bool.Decides.{nat_tests}
use Rattle.meaning.specs.Values as meant
use Rattle.meaning.specs.Values.{Id, others_of, main_birth}
use Rattle.meaning.specs.Births.{Bearing, same_id, is_made_by, Part, part_of, part_at}
use Rattle.meaning.proofs.BirthLaws.{same_id-true, at_test, made_owner, made_from, made_below, first_is_made}
use Rattle.report_text.specs.of_event_log.Entries.{Entry, Born, main_object}
use Rattle.report_text.specs.of_event_log.Words as said
use Rattle.report_text.specs.of_event_log.Words.{born_in, main_bearing}
use Rattle.report_text.specs.of_report_lines.Main.{first}
use Rattle.log_words.specs.Tasks.{first_or, task_in, task_of}

is_same : (p o : Id) → p.owner ≡ o.owner → p.serial ≡ o.serial → same_id p o ≡ true
unfolding same_id
is_same p o e f = grind (arith, nat_tests)

-- a birth of one result makes its first object alone
made_alone : (p o : Id) (b : meant.Birth) → others_of b ≡ 0 → same_id p o ≡ is_made_by (record { object = p; birth = b }) o
made_alone p o b one =
    let x : Bearing = record { object = p; birth = b } in
    at_test (λ t. is_made_by x o ≡ t → same_id p o ≡ t) (is_made_by x o)
    (λ _ m. is_same p o (made_owner x o m) (omega (arith, made_from x o m, made_below x o m, one)))
    (λ _ m. at_test (λ s. same_id p o ≡ s → s ≡ false) (same_id p o)
    (λ _ e. let made : is_made_by x o ≡ true = subst (λ q. is_made_by x q ≡ true) (same_id-true p o e) (first_is_made x) in absurd (cc)) (λ _ e. refl) refl) refl

abbrev or_itself : Id → Option Id → Id
or_itself o None = o
or_itself o (Some p) = p

by_test : (t : Bool) (x : Bearing) (found : List Id) (rest : Option Part) (o : Id) → or_itself o (first found) ≡ first_or o rest →
    or_itself o (first ((if t then x.object ∷ [] else []) ++ found)) ≡ first_or o (if t then Some (part_of x o) else rest)
by_test true x found rest o e = refl
by_test false x found rest o e = e

-- whether births or entries are looked through
found_so : (o : Id) (log : List Entry) → or_itself o (first (flat_map (task_in o) log)) ≡ first_or o (part_at (flat_map born_in log) o)
found_so o [] = refl
found_so o (Born p a b ∷ log) =
    let x : Bearing = record { object = p; birth = b } in
    by_test (is_made_by x o) x (flat_map (task_in o) log) (part_at (flat_map born_in log) o) o (found_so o log)
found_so o (_ ∷ log) = found_so o log

-- main's object is no other's result
pub main_stands : (log : List Entry) (o : Id) → same_id main_object o ≡ true → o ≡ task_of (said.births log) o
unfolding task_of
main_stands log o h =
    sym (ap (λ t. first_or o (if t then Some (part_of main_bearing o) else part_at (flat_map born_in log) o)) (sym (made_alone main_object o main_birth refl) ∙ h)
    ∙ same_id-true main_object o h)

others_stand : (log : List Entry) (o : Id) (found : Option Id) → same_id main_object o ≡ false → found ≡ first (flat_map (task_in o) log) →
    or_itself o found ≡ task_of (said.births log) o
unfolding task_of
others_stand log o found h e =
    ap (or_itself o) e ∙ found_so o log
    ∙ ap (λ t. first_or o (if t then Some (part_of main_bearing o) else part_at (flat_map born_in log) o)) (sym h ∙ made_alone main_object o main_birth refl)

pub born_stands : (log : List Entry) (o p : Id) (found : Option Id) → same_id main_object o ≡ false → found ≡ first (flat_map (task_in o) log) →
    found ≡ Some p → p ≡ task_of (said.births log) o
born_stands log o p found h e is = sym (ap (or_itself o) is) ∙ others_stand log o found h e

pub unborn_stands : (log : List Entry) (o : Id) (found : Option Id) → same_id main_object o ≡ false → found ≡ first (flat_map (task_in o) log) →
    found ≡ None → o ≡ task_of (said.births log) o
unborn_stands log o found h e is = sym (ap (or_itself o) is) ∙ others_stand log o found h e

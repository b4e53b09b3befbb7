-- Of a task of two results: what its second object's content is, and what is not settled, resolved and released.
use Rattle.std.proofs.Common.{◌≡◌, ℕ, zero, suc, Bool, true, false, List, [], ◌∷◌, Option, Some, None, inl, inr, sym, subst}
use Rattle.std.specs.Prelude.{slice_get, ◌++◌, if◌then◌else◌}
use Rattle.meaning.specs.Values.{Value, Outcome, Put, Id, Birth}
use Rattle.meaning.specs.Births.{same_id, is_made_by, Part, part_at}
use Rattle.meaning.specs.Examples.{value, object}
use Rattle.event_log.specs.Words.{same_attempt, attempt, births, ends_of, resolves_of}
use Rattle.event_log.specs.Breaks.{Among}
use Rattle.event_log.specs.Rules.{HasContent, IsResult, IsUnresolved, AreUnreleased, IsAccepted, IsSettled}
use Rattle.log_examples.specs.Logs.{first_of}
use Rattle.log_examples.specs.SeveralResults.{birth_of_two, part_in, until_the_end, two_log, both_resolved, one_released, all_used}

some_is : {X : Type 0} {x y : X} → Some x ≡ Some y → x ≡ y
some_is e = cc

its_part : (p : Part) → part_at (births two_log) (object 1 2) ≡ Some p → p ≡ part_in birth_of_two 1
unfolding is_made_by
its_part p e = sym (some_is e)

no_put : (v : Value) → ◌≡◌ {A = Option Birth} None (Some (Put v)) → ⊥
no_put v e = absurd (cc)

none_there : {X : Type 0} (x : X) → Among x [] → ⊥
none_there x h = let e = h.1 in absurd (cc)

alone : {X : Type 0} (x y : X) → Among x (y ∷ []) → x ≡ y
alone x y (zero, e) = sym (some_is e)
alone x y (suc k, e) = absurd (cc)

if_at_all : (b : Bool) (cs ds : List Outcome) → Among cs ((if b then ds ∷ [] else []) ++ []) → cs ≡ ds
if_at_all true cs ds h = alone cs ds h
if_at_all false cs ds h = absurd (none_there cs h)

ended_with : (number : ℕ) (cs : List Outcome) → Among cs (ends_of (attempt (object 1 1) number) two_log) → cs ≡ value 3 ∷ value 2 ∷ []
ended_with number cs h = if_at_all (same_attempt (first_of (object 1 1)) (attempt (object 1 1) number)) cs (value 3 ∷ value 2 ∷ []) h

of_result : (c : Outcome) → IsResult two_log (object 1 2) c → c ≡ value 2
of_result c x =
    let p = its_part x.part x.born in
    let ended = subst (λ q. Among x.contents (ends_of (attempt q.born.object x.number) two_log)) p x.ended in
    let cs = ended_with x.number x.contents ended in
    let there = subst (λ q. slice_get x.contents q.place ≡ Some c) p x.content in
    sym (some_is (subst (λ ds. slice_get ds 1 ≡ Some c) cs there))

pub content_is_second : (c : Outcome) → HasContent two_log (object 1 2) c → c ≡ value 2
unfolding same_id
content_is_second c (inl x) = absurd (no_put x.0 x.1)
content_is_second c (inr x) = of_result c x

not_nil : {X : Type 0} (x : X) (xs : List X) → ◌≡◌ {A = List X} (x ∷ xs) [] → ⊥
not_nil x xs e = absurd (cc)

resolved_at : (k : ℕ) (p : Id) → slice_get (object 1 1 ∷ object 1 2 ∷ []) k ≡ Some p → resolves_of p both_resolved ≡ [] → ⊥
unfolding same_id
resolved_at zero p e h = not_nil (all_used (object 1 1)) [] (subst (λ q. resolves_of q both_resolved ≡ []) (sym (some_is e)) h)
resolved_at (suc zero) p e h = not_nil (all_used (object 1 2)) [] (subst (λ q. resolves_of q both_resolved ≡ []) (sym (some_is e)) h)
resolved_at (suc (suc k)) p e h = absurd (cc)

pub both_are_resolved : IsUnresolved both_resolved (object 1 1) → ⊥
unfolding same_id
both_are_resolved h = resolved_at h.1.0 h.0 h.1.1 h.2

pub first_is_released : AreUnreleased one_released (object 1 2) → ⊥
unfolding same_id
first_is_released h = not_nil (object 1 2) [] h.0

not_accepted : IsAccepted until_the_end (object 1 2) → ⊥
not_accepted x = none_there (attempt x.part.born.object x.number) x.accepted

pub end_settles_nothing : IsSettled until_the_end (object 1 2) → ⊥
unfolding same_id
end_settles_nothing h = elim h [ inl x ↦ no_put x.0 x.1 | inr y ↦ elim y [ inl z ↦ none_there z.0 z.1 | inr w ↦ not_accepted w ] ]

-- What an added and a removed holder changes.
use Rattle.std.proofs.Common.{◌≡◌, ◌∙◌, Bool, true, false, List, [], ◌∷◌, ◌++◌, ap, refl, subst, sym, if◌then◌else◌}
use Rattle.std.specs.Prelude.{not, ◌&&◌, ◌||◌}
use Rattle.std.specs.List.{list_any}
use Rattle.meaning.specs.Births.{same_id}
use Rattle.meaning.specs.Values.{Id}
use Rattle.meaning.proofs.BirthLaws.{at_test, same_id-refl, same_id-true}
use Rattle.protocol.specs.Sets.{has_id, with_id}
use Rattle.protocol.specs.Tables.{Object, with_holder, without_holder}
use Rattle.borrow.specs.Held.{holds}

known : (os : List Id) (o p : Id) → has_id os o ≡ true → has_id os p ≡ (has_id os p || same_id o p)
known os o p e =
    at_test (λ b. same_id o p ≡ b → has_id os p ≡ (has_id os p || b)) (same_id o p)
    (λ _ s. let there : has_id os p ≡ true = subst (λ q. has_id os q ≡ true) (same_id-true o p s) e in there ∙ ap (λ b. b || true) (sym there))
    (λ _ _. at_test (λ b. b ≡ (b || false)) (has_id os p) (λ _. refl) (λ _. refl)) refl

or_in : (a b c : Bool) → (a || (if b then true else c)) ≡ (if a || b then true else c)
or_in true b c = refl
or_in false b c = refl

any_push : (p : Id) (seen : List Id) (o : Id) → has_id (seen ++ o ∷ []) p ≡ (if has_id seen p then true else same_id o p)
any_push p [] o = at_test (λ b. (b || false) ≡ b) (same_id o p) (λ _. refl) (λ _. refl)
any_push p (s ∷ seen) o = ap (λ b. same_id s p || b) (any_push p seen o) ∙ or_in (same_id s p) (has_id seen p) (same_id o p)

pushed : (b c : Bool) → (if b then true else c) ≡ (b || c)
pushed true c = refl
pushed false c = refl

pub with_one : (os : List Id) (o p : Id) → has_id (with_id os o) p ≡ (has_id os p || same_id o p)
with_one os o p =
    at_test (λ b. has_id os o ≡ b → has_id (if b then os else os ++ o ∷ []) p ≡ (has_id os p || same_id o p)) (has_id os o)
    (λ _ e. known os o p e)
    (λ _ _. any_push p os o ∙ pushed (has_id os p) (same_id o p)) refl

pub added_by : (new old : Object) (h e : Id) → new ≡ with_holder h old → holds new e ≡ ((has_id old.added e || same_id h e) && not (has_id old.removed e))
added_by new old h e s = ap (λ x. holds x e) s ∙ ap (λ b. b && not (has_id old.removed e)) (with_one old.added h e)

gone : (a s : Bool) → ((a || s) && not true) ≡ (a && not true)
gone true s = refl
gone false true = refl
gone false false = refl

nothing : (a r : Bool) → ((a || false) && not r) ≡ (a && not r)
nothing true r = refl
nothing false r = refl

pub late_by : (new old : Object) (h e : Id) → has_id old.removed h ≡ true → new ≡ with_holder h old → holds new e ≡ holds old e
late_by new old h e r s =
    added_by new old h e s
    ∙ at_test (λ b. same_id h e ≡ b → ((has_id old.added e || b) && not (has_id old.removed e)) ≡ (has_id old.added e && not (has_id old.removed e))) (same_id h e)
    (λ _ t.
    let late : has_id old.removed e ≡ true = subst (λ q. has_id old.removed q ≡ true) (same_id-true h e t) r in
    ap (λ b. (has_id old.added e || true) && not b) late ∙ gone (has_id old.added e) true ∙ sym (ap (λ b. has_id old.added e && not b) late))
    (λ _ _. nothing (has_id old.added e) (has_id old.removed e)) refl

apart : (a r s : Bool) → (a && not (r || s)) ≡ ((a && not r) && not s)
apart true true s = refl
apart true false s = refl
apart false r s = refl

pub removed_by : (new old : Object) (h e : Id) → new ≡ without_holder h old → holds new e ≡ (holds old e && not (same_id h e))
removed_by new old h e s =
    ap (λ x. holds x e) s ∙ ap (λ b. has_id old.added e && not b) (with_one old.removed h e) ∙ apart (has_id old.added e) (has_id old.removed e) (same_id h e)

-- ---- whether anyone holds it

holder_more : (s a r : Bool) → (a && r) ≡ true → ((s || a) && r) ≡ true
holder_more true true r e = e
holder_more true false r e = absurd (cc)
holder_more false a r e = e

first_holder : (s a r : Bool) → s ≡ true → r ≡ true → ((s || a) && r) ≡ true
first_holder true a r e f = f
first_holder false a r e f = absurd (cc)

pub some_left : (rs os : List Id) → list_any (λ e. not (has_id rs e)) os ≡ true → (e : Id) × ((has_id os e && not (has_id rs e)) ≡ true)
some_left rs [] h = absurd (cc)
some_left rs (o ∷ os) h =
    at_test (λ b. not (has_id rs o) ≡ b → (b || list_any (λ e. not (has_id rs e)) os) ≡ true → (e : Id) × ((has_id (o ∷ os) e && not (has_id rs e)) ≡ true)) (not (has_id rs o))
    (λ _ t _. (o, first_holder (same_id o o) (has_id os o) (not (has_id rs o)) (same_id-refl o) t))
    (λ _ _ g. let r = some_left rs os g in (r.0, holder_more (same_id o r.0) (has_id os r.0) (not (has_id rs r.0)) r.1)) refl h

or_first : (b c : Bool) → b ≡ true → (b || c) ≡ true
or_first true c e = refl
or_first false c e = absurd (cc)

or_second : (b c : Bool) → c ≡ true → (b || c) ≡ true
or_second true c e = refl
or_second false c e = e

pub left_some : (rs os : List Id) (e : Id) → (has_id os e && not (has_id rs e)) ≡ true → list_any (λ p. not (has_id rs p)) os ≡ true
left_some rs [] e h = absurd (cc)
left_some rs (o ∷ os) e h =
    at_test (λ b. same_id o e ≡ b → ((b || has_id os e) && not (has_id rs e)) ≡ true → (not (has_id rs o) || list_any (λ p. not (has_id rs p)) os) ≡ true) (same_id o e)
    (λ _ s g. or_first (not (has_id rs o)) _ (subst (λ q. not (has_id rs q) ≡ true) (sym (same_id-true o e s)) g))
    (λ _ _ g. or_second (not (has_id rs o)) _ (left_some rs os e g)) refl h

-- What a replay gives has only ids that it was given, or that it bore before.
use Rattle.std.proofs.Common.{◌≡◌, ℕ, true, List, [], ◌∷◌, ◌++◌, inl, inr, refl, sym, subst}
use Rattle.meaning.specs.Lists.{IsFirst}
use Rattle.meaning.specs.Values.{Value, Int, Items, Named, Known, Values, none, more, Outcome, Val, Trapped, Aborted, Argument, Birth, Put, Task, results_of, Id}
use Rattle.meaning.specs.Syntax.{Script}
use Rattle.meaning.specs.Runs.{Run, Ends, Prints, Bears, Gets, piece, named, behind}
use Rattle.meaning.specs.Meaning.{run_birth, replay}
use Rattle.meaning.specs.Births.{Bearing, numbered, is_made_by}
use Rattle.meaning.proofs.BirthLaws.{names_in}
use Rattle.meaning.specs.Ids.{ValueIn, ItemsIn, OutcomeIn, ArgumentsIn, BirthIn, OutcomesIn, ValuesIn, StopIn, ObjectsIn, StandsIn, StandsAmong, StandsInOutcome, StandsInArguments, StandsInBirth, StandsInOutcomes, IsObjectOf}
use Rattle.meaning.specs.Law.{IsGiven, GivesOnlyGiven, LawOfIds}
use Rattle.script_laws.proofs.Ids.{Keeps, needs_in, outcomes_keep, births_keep}

none_longer : {X : Type 0} (xs : List X) (x : X) → IsFirst (xs ++ x ∷ []) [] → ⊥
none_longer [] x h = h
none_longer (y ∷ xs) x h = h

module _ (P : Id → Type 0) where
  pub born_by_piece : (n : ℕ) (run : Run) (base : Id) (answers : List Outcome) (xs : List Bearing) (x : Bearing) → Keeps P run → OutcomesIn P answers → ObjectsIn P xs → IsFirst (xs ++ x ∷ []) (numbered base (piece n run base answers).births) → BirthIn P x.birth
  born_by_piece n (Ends e) base answers xs x k h o f = absurd (none_longer xs x f)
  born_by_piece n (Prints v next) base answers xs x k h o f = born_by_piece n next base answers xs x k.1 h o f
  born_by_piece n (Bears b m next) base answers [] x k h o f = subst (λ (z : Bearing). BirthIn P z.birth) f.0 k.0
  born_by_piece n (Bears b m next) base answers (y ∷ xs) x k h o f =
      let here : ValuesIn P (named base b) = names_in (record { object = base; birth = b }) P (subst (λ (z : Bearing). (p : Id) → is_made_by z p ≡ true → P p) (sym f.0) o.0) in
      born_by_piece n (next (named base b)) (behind base b) answers xs x (k.1 (named base b) here) h o.1 f.1
  born_by_piece n (Gets t r next) base [] xs x k h o f = absurd (none_longer xs x f)
  born_by_piece n (Gets t r next) base (Val v ∷ answers) xs x k h o f = born_by_piece n (next v) base answers xs x (k.1 v h.0) h.1 o f
  born_by_piece n (Gets t r next) base (Trapped e ∷ answers) xs x k h o f = absurd (none_longer xs x f)

  pub stop_by_piece : (n : ℕ) (run : Run) (base : Id) (answers : List Outcome) → Keeps P run → OutcomesIn P answers → ObjectsIn P (numbered base (piece n run base answers).births) →
      StopIn P (piece n run base answers).stop × ValuesIn P (piece n run base answers).prints
  stop_by_piece n (Ends e) base answers k h o = (outcomes_keep P n e k, tt)
  stop_by_piece n (Prints v next) base answers k h o = let r = stop_by_piece n next base answers k.1 h o in (r.0, (k.0, r.1))
  stop_by_piece n (Bears b m next) base answers k h o =
      stop_by_piece n (next (named base b)) (behind base b) answers (k.1 (named base b) (names_in (record { object = base; birth = b }) P o.0)) h o.1
  stop_by_piece n (Gets t r next) base [] k h o = (needs_in P r k.0, tt)
  stop_by_piece n (Gets t r next) base (Val v ∷ answers) k h o = stop_by_piece n (next v) base answers (k.1 v h.0) h.1 o
  stop_by_piece n (Gets t r next) base (Trapped e ∷ answers) k h o = (outcomes_keep P n (Aborted e) tt, tt)

-- whatever has the ids that stand in a value has the value
module _ (P : Id → Type 0) where
  mutual
    value_has : (v : Value) → ((z : Id) → StandsIn z v → P z) → ValueIn P v
    value_has (Int n) h = tt
    value_has (Items vs) h = items_have vs h
    value_has (Named o) h = h o refl
    value_has (Known c) h = tt

    items_have : (vs : Values) → ((z : Id) → StandsAmong z vs → P z) → ItemsIn P vs
    items_have none h = tt
    items_have (more v vs) h = (value_has v (λ z k. h z (inl k)), items_have vs (λ z k. h z (inr k)))

  outcome_has : (c : Outcome) → ((z : Id) → StandsInOutcome z c → P z) → OutcomeIn P c
  outcome_has (Val v) h = value_has v h
  outcome_has (Trapped t) h = tt

  outcomes_have : (cs : List Outcome) → ((z : Id) → StandsInOutcomes z cs → P z) → OutcomesIn P cs
  outcomes_have [] h = tt
  outcomes_have (c ∷ cs) h = (outcome_has c (λ z k. h z (inl k)), outcomes_have cs (λ z k. h z (inr k)))

  arguments_have : (args : List Argument) → ((z : Id) → StandsInArguments z args → P z) → ArgumentsIn P args
  arguments_have [] h = tt
  arguments_have (a ∷ args) h = (value_has a.value (λ z k. h z (inl k)), arguments_have args (λ z k. h z (inr k)))

  birth_has : (b : Birth) → ((z : Id) → StandsInBirth z b → P z) → BirthIn P b
  birth_has (Put v) h = value_has v h
  birth_has (Task g args depth retries others) h = arguments_have args h

  objects_have : (xs : List Bearing) → ((z : Id) → IsObjectOf z xs → P z) → ObjectsIn P xs
  objects_have [] h = tt
  objects_have (x ∷ xs) h = (λ z m. h z (inl m), objects_have xs (λ z k. h z (inr k)))

module _ (script : Script) (spec : Birth) (base : Id) (answers : List Outcome) where
  -- what the run is given among these objects
  given_in : (objects : List Bearing) → Keeps (IsGiven spec objects answers) (run_birth script spec)
  given_in objects = births_keep (IsGiven spec objects answers) script spec (birth_has (IsGiven spec objects answers) spec (λ z k. inl k))

  given_answers : (objects : List Bearing) → OutcomesIn (IsGiven spec objects answers) answers
  given_answers objects = outcomes_have (IsGiven spec objects answers) answers (λ z k. inr (inr k))

  given_objects : (objects : List Bearing) → ObjectsIn (IsGiven spec objects answers) objects
  given_objects objects = objects_have (IsGiven spec objects answers) objects (λ z k. inr (inl k))

  gives_only_given : GivesOnlyGiven script spec base answers
  gives_only_given =
      let own = numbered base (replay script spec base answers).births in
      let known = stop_by_piece (IsGiven spec own answers) (results_of spec) (run_birth script spec) base answers (given_in own) (given_answers own) (given_objects own) in
      record {
        births = λ earlier x f. born_by_piece (IsGiven spec earlier answers) (results_of spec) (run_birth script spec) base answers earlier x (given_in earlier) (given_answers earlier) (given_objects earlier) f;
        prints = known.1;
        stop = known.0;
      }

pub law_of_ids : LawOfIds
law_of_ids script spec base answers = gives_only_given script spec base answers

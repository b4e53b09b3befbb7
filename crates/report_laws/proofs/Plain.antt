-- What main of a checked script prints and ends with has no reference in it, and so is read as it is.
use Rattle.std.proofs.Common.{◌≡◌, ◌∙◌, List, [], ◌∷◌, map, refl, sym, ap, subst}
use Rattle.meaning.specs.Lists.{IsFirst}
use Rattle.meaning.specs.Values.{Value, Int, Items, Named, Known, Values, none, more, Outcome, Val, Trapped, Completion, Returned, Aborted, first_outcome, Id, main_name}
use Rattle.meaning.specs.Syntax.{Kind, Number, Script}
use Rattle.meaning.specs.Runs.{Run, Ends, Prints, Bears, Gets, named, behind}
use Rattle.meaning.specs.Meaning.{serial_run}
use Rattle.meaning.specs.Kinds.{IsPlain, ArePlain, AllPlain, EndsIn, CompletesIn, MarkedOf, AnswersFit, IsSafeTask}
use Rattle.meaning.specs.Readings.{Reading, read, read_items, read_outcome}
use Rattle.script_laws.proofs.Safety.{are_safe}
use Rattle.script_check.specs.Scripts.{IsWellTyped}

-- no answers fit every run
no_answers : (run : Run) (base : Id) → AnswersFit run base []
no_answers (Ends e) base = tt
no_answers (Prints v next) base = no_answers next base
no_answers (Bears b made next) base = no_answers (next (named base b)) (behind base b)
no_answers (Gets u r next) base = tt

abbrev pub first_id : Id
first_id = record { owner = 1; serial = 1 }

pub main_is_safe : (script : Script) → IsWellTyped script → IsSafeTask (serial_run script) (Number ∷ []) first_id []
main_is_safe script w =
    let f = w.main.0 in
    let marked : MarkedOf [] f.parameters = subst (MarkedOf []) (sym w.main.2) tt in
    subst (λ ts. IsSafeTask (serial_run script) ts first_id []) w.main.3
    (are_safe script w.checks main_name f [] 0 first_id [] w.main.1 marked (no_answers (serial_run script) first_id))

-- the first result of what ended in kinds is of the first
pub first_ends : (e : Completion) (u : Kind) (us : List Kind) → CompletesIn e (u ∷ us) → EndsIn (first_outcome e) u
first_ends (Returned []) u us h = absurd h
first_ends (Returned (v ∷ vs)) u us h = h.0
first_ends (Aborted t) u us h = h

mutual
  plain_read : (r : Reading) (v : Value) → IsPlain (read r v) → read r v ≡ v
  plain_read r (Int n) h = refl
  plain_read r (Items vs) h = ap Items (plain_items r vs h)
  plain_read r (Named o) h = absurd h
  plain_read r (Known c) h = absurd h

  plain_items : (r : Reading) (vs : Values) → ArePlain (read_items r vs) → read_items r vs ≡ vs
  plain_items r none h = refl
  plain_items r (more v vs) h = ap (λ x. more x (read_items r vs)) (plain_read r v h.0) ∙ ap (λ xs. more v xs) (plain_items r vs h.1)

-- a beginning of what is plain
pub first_read : (r : Reading) (vs ds : List Value) → AllPlain ds → IsFirst (map (read r) vs) ds → map (read r) vs ≡ vs
first_read r [] ds p h = refl
first_read r (v ∷ vs) [] p h = absurd h
first_read r (v ∷ vs) (d ∷ ds) p h =
    ap (λ x. x ∷ map (read r) vs) (plain_read r v (subst IsPlain h.0 p.0)) ∙ ap (λ xs. v ∷ xs) (first_read r vs ds p.1 h.1)

-- the whole of it
pub all_read : (r : Reading) (vs : List Value) → AllPlain (map (read r) vs) → map (read r) vs ≡ vs
all_read r [] p = refl
all_read r (v ∷ vs) p = ap (λ x. x ∷ map (read r) vs) (plain_read r v p.0) ∙ ap (λ xs. v ∷ xs) (all_read r vs p.1)

-- an outcome that is a number or a trap
pub outcome_read : (r : Reading) (c : Outcome) → EndsIn (read_outcome r c) Number → read_outcome r c ≡ c
outcome_read r (Val (Int n)) h = refl
outcome_read r (Val (Items vs)) h = absurd h
outcome_read r (Val (Named o)) h = absurd h
outcome_read r (Val (Known c)) h = absurd h
outcome_read r (Trapped t) h = refl

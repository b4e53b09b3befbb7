-- Main of a checked script is safe.
use Rattle.std.proofs.Common.{◌≡◌, List, [], ◌∷◌, sym, subst}
use Rattle.meaning.specs.Values.{Value, Int, Items, Named, Known, Values, none, more, Outcome, Val, Trapped, Broken, Id, main_name}
use Rattle.meaning.specs.Syntax.{Number, Script}
use Rattle.meaning.specs.Runs.{Run, Ends, Prints, Bears, Gets, named, behind}
use Rattle.meaning.specs.Meaning.{serial_run}
use Rattle.meaning.specs.Kinds.{IsPlain, ArePlain, AllPlain, EndsIn, MarkedOf, AnswersFit, IsSafeTask, AreSafe}
use Rattle.script_check.specs.Scripts.{IsWellTyped}
use Rattle.evaluation.specs.TaskValues.{IsTaskValue, AreTaskValues, EachTaskValue, IsTaskOutcome}

-- no answers fit every run
no_answers : (run : Run) (base : Id) → AnswersFit run base []
no_answers (Ends e) base = tt
no_answers (Prints v next) base = no_answers next base
no_answers (Bears b made next) base = no_answers (next (named base b)) (behind base b)
no_answers (Gets u r next) base = tt

abbrev pub first_id : Id
first_id = record { owner = 0; serial = 0 }

pub main_is_safe : AreSafe → (script : Script) → IsWellTyped script → IsSafeTask (serial_run script) (Number ∷ []) first_id []
main_is_safe safe script w =
    let f = w.main.0 in
    let marked : MarkedOf [] f.parameters = subst (MarkedOf []) (sym w.main.2) tt in
    subst (λ ts. IsSafeTask (serial_run script) ts first_id []) w.main.3
    (safe script w.checks main_name f [] 0 first_id [] w.main.1 marked (no_answers (serial_run script) first_id))

-- a number is no wrong operand, and what has no reference has no outcome
pub not_broken : (c : Outcome) → EndsIn c Number → c ≡ Trapped Broken → ⊥
not_broken c h e = subst (λ d. EndsIn d Number) e h

pub number_is_task : (c : Outcome) → EndsIn c Number → IsTaskOutcome c
number_is_task (Val (Int n)) h = tt
number_is_task (Val (Items vs)) h = absurd h
number_is_task (Val (Named o)) h = tt
number_is_task (Val (Known c)) h = absurd h
number_is_task (Trapped t) h = tt

mutual
  plain_is_task : (v : Value) → IsPlain v → IsTaskValue v
  plain_is_task (Int n) h = tt
  plain_is_task (Items vs) h = plain_are_tasks vs h
  plain_is_task (Named o) h = tt
  plain_is_task (Known c) h = h

  plain_are_tasks : (vs : Values) → ArePlain vs → AreTaskValues vs
  plain_are_tasks none h = tt
  plain_are_tasks (more v vs) h = (plain_is_task v h.0, plain_are_tasks vs h.1)

pub prints_are_tasks : (vs : List Value) → AllPlain vs → EachTaskValue vs
prints_are_tasks [] h = tt
prints_are_tasks (v ∷ vs) h = (plain_is_task v h.0, prints_are_tasks vs h.1)

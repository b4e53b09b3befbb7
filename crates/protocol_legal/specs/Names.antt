-- What is true of an object's holders, of ids that were passed on, and of those that a dead owner's object held.
use Rattle.std.specs.Prelude.{◌≡◌, true, List, Option, Some, None}
use Rattle.std.specs.List.{AllByRecursion}
use Rattle.meaning.specs.Values.{Id}
use Rattle.kind_laws.specs.of_event_log.Entries.{Entry}
use Rattle.kind_laws.specs.of_event_log.Events.{is_killed}
use Rattle.kind_laws.specs.of_event_log.Holding.{HasId}
use Rattle.step_laws.specs.of_protocol.Tables.{Holding, Object}

-- the entry has the id, and its owner is dead
abbrev pub IsDeadHolder : List Entry → Id → Id → Type 0
IsDeadHolder log e z = HasId log e z × (is_killed e.owner log ≡ true)

abbrev pub IsDeadIfAny : List Entry → Id → Option Id → Type 0
IsDeadIfAny log z None = Unit {0}
IsDeadIfAny log z (Some e) = IsDeadHolder log e z

-- each of these has the other's id
abbrev pub AllHave : List Entry → List Holding → Type 0
AllHave log ks = AllByRecursion (λ k. HasId log k.holder k.object) ks

pub record KnowsNames (log : List Entry) (o : Id) (its added : List Id) (lost : Option Id) : Type 0 where
  -- it has the ids that it holds
  pub ids : AllByRecursion (λ z. HasId log o z) its
  -- who was added as a holder has its id
  pub holders : AllByRecursion (λ e. HasId log e o) added
  -- the owner of the one that is kept as dead is dead
  pub dead : IsDeadIfAny log o lost

abbrev pub NamesOf : List Entry → Id → Object → Type 0
NamesOf log o x = KnowsNames log o x.ids x.added x.dead_holder

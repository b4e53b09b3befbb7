-- The ids that stand in a value, in order.
use Rattle.std.specs.Prelude.{if◌then◌else◌, List, [], ◌∷◌, ◌++◌}
use Rattle.std.specs.List.{list_any}
use Rattle.ids.specs.of_meaning.Values.{Value, Items, Named, Values, none, more, Outcome, Val, Trapped, Id}
use Rattle.ids.specs.of_meaning.Births.{same_id}

abbrev mutual
  pub ids_listed : Value → List Id
  ids_listed (Items vs) = ids_among vs
  ids_listed (Named o) = o ∷ []
  ids_listed _ = []

  pub ids_among : Values → List Id
  ids_among none = []
  ids_among (more v vs) = ids_listed v ++ ids_among vs

abbrev pub ids_in_outcome : Outcome → List Id
ids_in_outcome (Val v) = ids_listed v
ids_in_outcome (Trapped t) = []

-- the others
abbrev pub without : Id → List Id → List Id
without o [] = []
without o (p ∷ ps) = if same_id p o then without o ps else p ∷ without o ps

-- each at its first place alone
abbrev pub each_once : List Id → List Id
each_once [] = []
each_once (o ∷ os) = o ∷ without o (each_once os)

-- one by one at the end, unless it is there already
abbrev pub adding : List Id → List Id → List Id
adding seen [] = seen
adding seen (o ∷ os) = adding (if list_any (λ p. same_id p o) seen then seen else seen ++ o ∷ []) os

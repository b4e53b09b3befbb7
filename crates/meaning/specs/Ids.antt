-- Which ids a value names.
use Rattle.std.specs.Prelude.{◌≡◌, true, List, [], ◌∷◌, ◌⊎◌}
use Rattle.meaning.specs.Values.{Value, Int, Items, Named, Known, Values, none, more, Outcome, Val, Trapped, Argument, Birth, Put, Task, Id}
use Rattle.meaning.specs.Runs.{Stop, Needs, Over}
use Rattle.meaning.specs.Births.{Bearing, is_made_by}

module _ (P : Id → Type 0) where
  abbrev mutual
    -- all ids in the value are of the set
    pub ValueIn : Value → Type 0
    ValueIn (Int n) = Unit {0}
    ValueIn (Items vs) = ItemsIn vs
    ValueIn (Named o) = P o
    ValueIn (Known c) = Unit {0}

    pub ItemsIn : Values → Type 0
    ItemsIn none = Unit {0}
    ItemsIn (more v vs) = ValueIn v × ItemsIn vs

  abbrev pub OutcomeIn : Outcome → Type 0
  OutcomeIn (Val v) = ValueIn v
  OutcomeIn (Trapped t) = Unit {0}

  abbrev pub ArgumentsIn : List Argument → Type 0
  ArgumentsIn [] = Unit {0}
  ArgumentsIn (a ∷ args) = ValueIn a.value × ArgumentsIn args

  abbrev pub BirthIn : Birth → Type 0
  BirthIn (Put v) = ValueIn v
  BirthIn (Task g args depth retries others) = ArgumentsIn args

  abbrev pub OutcomesIn : List Outcome → Type 0
  OutcomesIn [] = Unit {0}
  OutcomesIn (c ∷ cs) = OutcomeIn c × OutcomesIn cs

  abbrev pub ValuesIn : List Value → Type 0
  ValuesIn [] = Unit {0}
  ValuesIn (v ∷ vs) = ValueIn v × ValuesIn vs

  abbrev pub StopIn : Stop → Type 0
  StopIn (Needs r) = ValueIn r
  StopIn (Over cs) = OutcomesIn cs

  abbrev pub IdsIn : List Id → Type 0
  IdsIn [] = Unit {0}
  IdsIn (o ∷ os) = P o × IdsIn os

  -- all that was born is of the set
  abbrev pub ObjectsIn : List Bearing → Type 0
  ObjectsIn [] = Unit {0}
  ObjectsIn (x ∷ xs) = ((o : Id) → is_made_by x o ≡ true → P o) × ObjectsIn xs

module _ (z : Id) where
  abbrev mutual
    -- the id stands in the value
    pub StandsIn : Value → Type 0
    StandsIn (Int n) = ⊥
    StandsIn (Items vs) = StandsAmong vs
    StandsIn (Named o) = o ≡ z
    StandsIn (Known c) = ⊥

    pub StandsAmong : Values → Type 0
    StandsAmong none = ⊥
    StandsAmong (more v vs) = StandsIn v ⊎ StandsAmong vs

  abbrev pub StandsInOutcome : Outcome → Type 0
  StandsInOutcome (Val v) = StandsIn v
  StandsInOutcome (Trapped t) = ⊥

  abbrev pub StandsInArguments : List Argument → Type 0
  StandsInArguments [] = ⊥
  StandsInArguments (a ∷ args) = StandsIn a.value ⊎ StandsInArguments args

  abbrev pub StandsInBirth : Birth → Type 0
  StandsInBirth (Put v) = StandsIn v
  StandsInBirth (Task g args depth retries others) = StandsInArguments args

  abbrev pub StandsInOutcomes : List Outcome → Type 0
  StandsInOutcomes [] = ⊥
  StandsInOutcomes (c ∷ cs) = StandsInOutcome c ⊎ StandsInOutcomes cs

  abbrev pub IsObjectOf : List Bearing → Type 0
  IsObjectOf [] = ⊥
  IsObjectOf (x ∷ xs) = (is_made_by x z ≡ true) ⊎ IsObjectOf xs

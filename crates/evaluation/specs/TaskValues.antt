-- Values of tasks: references are ids, and no outcome stands in them.
use Rattle.std.specs.Prelude.{List, [], ◌∷◌}
use Rattle.meaning.specs.Values.{Value, Int, Items, Named, Known, Values, none, more, Outcome, Val, Trapped, Argument, Birth, Put, Task}
use Rattle.meaning.specs.Runs.{Piece, Stop, Needs, Over}

abbrev mutual
  pub IsTaskValue : Value → Type 0
  IsTaskValue (Int n) = Unit {0}
  IsTaskValue (Items vs) = AreTaskValues vs
  IsTaskValue (Named o) = Unit {0}
  IsTaskValue (Known c) = ⊥

  pub AreTaskValues : Values → Type 0
  AreTaskValues none = Unit {0}
  AreTaskValues (more v vs) = IsTaskValue v × AreTaskValues vs

-- an id
abbrev pub IsNamed : Value → Type 0
IsNamed (Int n) = ⊥
IsNamed (Items vs) = ⊥
IsNamed (Named o) = Unit {0}
IsNamed (Known c) = ⊥

abbrev pub EachTaskValue : List Value → Type 0
EachTaskValue [] = Unit {0}
EachTaskValue (v ∷ vs) = IsTaskValue v × EachTaskValue vs

abbrev pub IsTaskOutcome : Outcome → Type 0
IsTaskOutcome (Val v) = IsTaskValue v
IsTaskOutcome (Trapped t) = Unit {0}

abbrev pub AreTaskArguments : List Argument → Type 0
AreTaskArguments [] = Unit {0}
AreTaskArguments (a ∷ args) = IsTaskValue a.value × AreTaskArguments args

abbrev pub IsTaskBirth : Birth → Type 0
IsTaskBirth (Put v) = IsTaskValue v
IsTaskBirth (Task g args depth retries others) = AreTaskArguments args

abbrev pub AreTaskBirths : List Birth → Type 0
AreTaskBirths [] = Unit {0}
AreTaskBirths (b ∷ bs) = IsTaskBirth b × AreTaskBirths bs

abbrev pub AreTaskOutcomes : List Outcome → Type 0
AreTaskOutcomes [] = Unit {0}
AreTaskOutcomes (c ∷ cs) = IsTaskOutcome c × AreTaskOutcomes cs

abbrev pub IsTaskStop : Stop → Type 0
IsTaskStop (Needs r) = IsNamed r
IsTaskStop (Over cs) = AreTaskOutcomes cs

pub record IsTaskPiece (p : Piece) : Type 0 where
  pub births : AreTaskBirths p.births
  pub prints : EachTaskValue p.prints
  pub stop : IsTaskStop p.stop

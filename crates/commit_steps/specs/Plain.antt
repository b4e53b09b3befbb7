-- Contents that are nowhere but with their attempt.
use Rattle.std.specs.Prelude.{List, [], true, ◌∷◌, ◌≡◌}
use Rattle.meaning.specs.Values.{Outcome}
use Rattle.values.specs.Cells.{is_small}
use Rattle.values.specs.Listed.{each_once, ids_in_outcome}

-- it goes into no store, and has no ids in it
pub record IsPlain (c : Outcome) : Type 0 where
  pub small : is_small c ≡ true
  pub none : each_once (ids_in_outcome c) ≡ []

-- each of these is so
abbrev pub ArePlain : List Outcome → Type 0
ArePlain [] = Unit {0}
ArePlain (c ∷ cs) = IsPlain c × ArePlain cs

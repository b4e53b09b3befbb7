-- The texts of values.
use Rattle.std.specs.Prelude.{List, [], ℕ, zero, suc, ◌++◌, codes}
use Rattle.std.specs.Fmt.{decimal, signed_decimal}
use Rattle.values.specs.of_meaning.Values.{Value, Int, Items, Named, Known, Values, none, more, Id}

-- o1.2
abbrev pub id_text : Id → List ℕ
id_text o = codes "o" ++ (decimal o.owner ++ (codes "." ++ decimal o.serial))

-- a comma and a space before each item but the first
abbrev pub separator : ℕ → List ℕ
separator zero = []
separator (suc n) = codes ", "

abbrev mutual
  -- a number in decimal, a list as [1, 2], a reference as its object's id
  pub value_text : Value → List ℕ
  value_text (Int n) = signed_decimal n
  value_text (Items vs) = codes "[" ++ (items_text vs ++ codes "]")
  value_text (Named o) = id_text o
  value_text (Known c) = []

  -- the items, with a comma and a space between two
  pub items_text : Values → List ℕ
  items_text none = []
  items_text (more v vs) = value_text v ++ others_text vs

  pub others_text : Values → List ℕ
  others_text none = []
  others_text (more v vs) = codes ", " ++ (value_text v ++ others_text vs)

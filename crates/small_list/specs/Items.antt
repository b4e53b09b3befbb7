-- The items of a small list.
use Rattle.std.specs.Prelude.{List, [], ◌∷◌}
use Rattle.small_list.specs.declared.Items.{Items}
use Rattle.small_list.specs.declared.Items.TheVariants.{One, Many}

-- the one item, or those in a piece of memory of their own
abbrev pub items_of : {T : Type 0} → Items T → List T
items_of (One x a) = x ∷ []
items_of (Many v) = v.items

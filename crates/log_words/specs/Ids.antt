-- The objects that stand in a value, in order of first place.
use Rattle.std.specs.Prelude.{List}
use Rattle.meaning.specs.Values.{Id, Value}
use Rattle.values.specs.Listed.{ids_listed, each_once}

-- the objects that stand in a value, in order of first place
abbrev pub ids_of : Value → List Id
ids_of v = each_once (ids_listed v)

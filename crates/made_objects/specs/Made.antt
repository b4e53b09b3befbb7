-- The objects that a birth makes.
use Rattle.std.specs.Prelude.{List}
use Rattle.meaning.specs.Values.{Id, Birth}
use Rattle.meaning.specs.Births.{objects_in}

-- the objects of the birth whose first object is this
unfoldable pub objects_made : Id → Birth → List Id
objects_made o b = objects_in (record { object = o; birth = b })

-- What an attempt was answered, in memory.
use Rattle.std.specs.Prelude.{List, [], Option, Some, None}
use Rattle.std.specs.Arc.{arc_value}
use Rattle.std.specs.declared.sync.Arc.{Arc}
use Rattle.std.specs.declared.vec.Vec.{Vec}

-- the contents that copies share, if there are any
abbrev pub contents_of : {T A B : Type 0} → Option (Arc (Vec T A) B) → List T
contents_of None = []
contents_of (Some c) = (arc_value c).items

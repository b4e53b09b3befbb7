-- What an event is told to have come to: whether it was taken, and then what it left.
use Rattle.std.specs.Prelude.{Bool, Option, Some, None, if◌then◌else◌}

-- what it left, if it was taken
abbrev pub if_taken : {X : Type 0} → Bool → X → Option X
if_taken is_taken left = if is_taken then Some left else None

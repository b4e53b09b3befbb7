-- Attempts, as the definitions have them.
use Rattle.std.specs.Prelude.{ℕ, Bool, ◌&&◌, ◌==◌}
use Rattle.meaning.specs.Values.{Id}
use Rattle.meaning.specs.Births.{same_id}

-- an attempt of an object's task, counted from 0
pub record Attempt : Type 0 where
  pub object : Id
  pub number : ℕ

unfoldable pub same_attempt : Attempt → Attempt → Bool
same_attempt a b = same_id a.object b.object && (a.number == b.number)

-- How workers, nodes, objects and attempts are written, and how such a text is read.
use Rattle.std.specs.Prelude.{ℕ, ◌<◌, ◌^◌, Bool, true, false, ◌==◌, if◌then◌else◌, List, [], ◌∷◌, ◌++◌, codes}
use Rattle.std.specs.Fmt.{decimal}
use Rattle.meaning.specs.Values.{Id}
use Rattle.ids.specs.Attempts.{Attempt}

abbrev pub worker_text : ℕ → List ℕ
worker_text w = codes "w" ++ decimal w

abbrev pub node_text : ℕ → List ℕ
node_text n = codes "n" ++ decimal n

abbrev pub object_text : Id → List ℕ
object_text o = codes "o" ++ (decimal o.owner ++ (codes "." ++ decimal o.serial))

abbrev pub attempt_text : Attempt → List ℕ
attempt_text a = codes "a" ++ (decimal a.object.owner ++ (codes "." ++ (decimal a.object.serial ++ (codes "#" ++ decimal a.number))))

-- its numbers fit their types, as those of every object in the code do
abbrev pub IsObject : Id → Type 0
IsObject o = (o.owner < 2 ^ 32) × (o.serial < 2 ^ 64)

abbrev pub has_dot : List ℕ → Bool
has_dot [] = false
has_dot (b ∷ bytes) = if b == 46 then true else has_dot bytes

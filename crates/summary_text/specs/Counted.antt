-- The word for what is counted.
use Rattle.std.specs.Prelude.{List, if◌then◌else◌, ℕ, ◌==◌}

-- the word for one thing, or that for several
unfoldable pub noun : ℕ → List ℕ → List ℕ → List ℕ
noun count one several = if count == 1 then one else several

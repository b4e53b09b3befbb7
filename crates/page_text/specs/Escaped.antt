-- JSON that stands in a page.
use Rattle.std.specs.Prelude.{ℕ, if◌then◌else◌, List, [], ◌∷◌, ◌==◌, codes}

-- a byte of JSON; < is written as its escape, which is the same character in a string, and JSON has it nowhere else
abbrev pub escaped : ℕ → List ℕ
escaped b = if b == 60 then codes "\\u003c" else b ∷ []

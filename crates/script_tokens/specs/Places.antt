-- Where tokens stand in their text: one behind the other, each at its own bytes.
use Rattle.std.specs.Prelude.{◌≡◌, ◌≤◌, ◌<◌, ℕ, List, [], ◌∷◌, slice_range}
use Rattle.script_tokens.specs.declared.token.Placed.{Placed}
use Rattle.script_tokens.specs.Spelling.{spell}
use Rattle.script_tokens.specs.Views.{token_of}

-- The tokens stand one after another between two places of the text, and the bytes of each span are its token's.
abbrev pub ArePlaced : List ℕ → ℕ → List Placed → ℕ → Type 0
ArePlaced text from [] to = from ≤ to
ArePlaced text from (p ∷ placed) to = (from ≤ p.span.start) × (p.span.start < p.span.end)
    × (slice_range text p.span.start p.span.end ≡ spell (token_of p.token)) × ArePlaced text p.span.end placed to

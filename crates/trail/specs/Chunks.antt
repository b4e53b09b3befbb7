-- The items of chunks.
use Rattle.std.specs.Prelude.{◌≡◌, List, [], ◌∷◌, Option, Some, None, length, map}
use Rattle.std.specs.List.{flat_map}
use Rattle.std.specs.Arc.{arc_value}
use Rattle.std.specs.declared.sync.Arc.{Arc}
use Rattle.std.specs.declared.vec.Vec.{Vec}

-- the items of a chunk
abbrev pub items_of : {T A B C : Type 0} → Arc (Vec (Arc T A) B) C → List T
items_of c = map arc_value (arc_value c).items

-- the items of the chunk behind the full ones, if there is one
abbrev pub last_items : {T A B C : Type 0} → Option (Arc (Vec (Arc T A) B) C) → List T
last_items None = []
last_items (Some c) = items_of c

-- the items of all chunks, in order
abbrev pub items_in : {T A B C : Type 0} → List (Arc (Vec (Arc T A) B) C) → List T
items_in cs = flat_map items_of cs

-- the full chunks, if there are any
abbrev pub chunks_of : {X A B : Type 0} → Option (Arc (Vec X A) B) → List X
chunks_of None = []
chunks_of (Some c) = (arc_value c).items

-- each chunk has 64 items
abbrev pub AreFull : {T A B C : Type 0} → List (Arc (Vec (Arc T A) B) C) → Type 0
AreFull [] = Unit {0}
AreFull (c ∷ cs) = (length (items_of c) ≡ 64) × AreFull cs

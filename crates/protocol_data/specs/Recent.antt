-- Copies in a cache of sixteen, the one used last first. A key names an object, and the attempt whose content it is.
use Rattle.std.specs.Prelude.{Bool, List, None, Option, Some, [], map, take, ℕ, ◌&&◌, ◌==◌, ◌∷◌, ◌≡◌}
use Rattle.std.specs.List.{find}
use Rattle.lru.specs.LruCache.{LruCache}
use Rattle.meaning.specs.Values.{Id, Outcome}
use Rattle.protocol_data.specs.Shelves.{is_sought, without}
use Rattle.protocol_data.specs.declared.secondaries.CopyKey.{CopyKey}
use Rattle.protocol_data.specs.declared.store.Copy.{Copy}

-- both name the same content
abbrev pub same_key : CopyKey → CopyKey → Bool
same_key a b = ((a.object.owner == b.object.owner) && (a.object.serial == b.object.serial)) && (a.number == b.number)

-- what a copy is known by
abbrev pub key_in : Copy → CopyKey
key_in x = record { object = x.object; number = x.number }

-- the copy that an entry is
abbrev pub copy_in : CopyKey × Outcome → Copy
copy_in e = record { object = e.0.object; number = e.0.number; content = e.1 }

-- the copies that the entries are
abbrev pub copies_of : List (CopyKey × Outcome) → List Copy
copies_of es = map copy_in es

-- the copies of a cache; before the first is put there is none
abbrev pub copies_in : Option (LruCache CopyKey Outcome) → List Copy
copies_in None = []
copies_in (Some c) = copies_of c.entries

-- sixteen copies go in
abbrev pub HoldsSixteen : Option (LruCache CopyKey Outcome) → Type 0
HoldsSixteen None = Unit {0}
HoldsSixteen (Some c) = c.cap ≡ 16

-- that copy first, and then the others
abbrev pub with_first : Option Copy → List Copy → List Copy
with_first None xs = xs
with_first (Some x) xs = x ∷ without x.object (Some x.number) xs

-- the copy of that attempt of the object first, if there is one, and then the others
abbrev pub brought_to_front : Id → ℕ → List Copy → List Copy
brought_to_front o n xs = with_first (find (is_sought o (Some n)) xs) xs

-- that copy first, in place of one of the same attempt and object; of the others, fifteen at most
abbrev pub put_first : Copy → List Copy → List Copy
put_first x xs = take 16 (x ∷ without x.object (Some x.number) xs)

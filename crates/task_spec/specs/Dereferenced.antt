-- Which objects a task's worker gets before the body.
use Rattle.std.specs.Prelude.{if◌then◌else◌, List, [], ◌∷◌, ◌++◌}
use Rattle.values.specs.of_meaning.Values.{Value, Named, Id, Argument, Birth, Put, Task}

-- the id that a value is
abbrev pub id_in : Value → List Id
id_in (Named o) = o ∷ []
id_in _ = []

-- the id of an argument that is marked to be dereferenced
abbrev pub id_read : Argument → List Id
id_read a = if a.marked then id_in a.value else []

-- those ids, in the order of the arguments
abbrev pub ids_read : List Argument → List Id
ids_read [] = []
ids_read (a ∷ args) = id_read a ++ ids_read args

-- a put dereferences none
abbrev pub dereferenced_in : Birth → List Id
dereferenced_in (Put v) = []
dereferenced_in (Task g args depth retries others) = ids_read args

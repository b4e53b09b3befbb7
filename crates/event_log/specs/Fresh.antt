-- Objects that are not born yet.
use Rattle.std.specs.Prelude.{◌≡◌, ◌≤◌, List, []}
use Rattle.script_laws.specs.of_meaning.Values.{Id}
use Rattle.event_log.specs.Entries.{Entry}
use Rattle.event_log.specs.Words.{births, next_serial, runs_of, resolves_of, releases_of}
use Rattle.event_log.specs.Rules.{Setting}
use Rattle.event_log.specs.Legal.{Legal}

-- no attempt of a task with this first object was begun, and the object is neither resolved nor released
pub record FreshIsUnknown (log : List Entry) (o : Id) : Type 0 where
  pub unbegun : runs_of o log ≡ []
  pub unresolved : resolves_of o log ≡ []
  pub unreleased : releases_of o log ≡ []

-- of the objects that a worker makes next, a legal log says nothing yet
abbrev pub FreshObjectsAreUnknown : Type 0
FreshObjectsAreUnknown =
    (s : Setting) (log : List Entry) → Legal s log → (o : Id) → next_serial o.owner (births log) ≤ o.serial → FreshIsUnknown log o

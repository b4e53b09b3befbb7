-- The births of a log by their first objects.
use Rattle.std.specs.Prelude.{◌≡◌, ℕ, Bool, false, List, Option, Some, None, drop, slice_get}
use Rattle.std.specs.List.{flat_map}
use Rattle.std.specs.Map.{lookup}
use Rattle.indexmap.specs.IndexMap.{IndexMap}
use Rattle.task_spec.specs.Births.{birth_of}
use Rattle.meaning.specs.Values.{Id, Birth, main_birth}
use Rattle.meaning.specs.Births.{same_id, birth_at}
use Rattle.report_text.specs.of_event_log.Entries.{Entry, Born}
use Rattle.report_text.specs.of_event_log.Words.{born_in}
use Rattle.log_words.specs.declared.births.BirthIndex.{BirthIndex}

-- the birth that stands at a place
abbrev pub birth_in : Option Entry → Option Birth
birth_in (Some (Born o a b)) = Some b
birth_in _ = None

-- the place that is noted for the object
abbrev pub found : {S : Type 0} → IndexMap Id ℕ S → Id → Option ℕ
found places o = lookup (λ p. same_id o p) places.entries

-- the entry is the object's birth
abbrev pub is_born_in : Id → Entry → Bool
is_born_in o (Born p a b) = same_id p o
is_born_in o _ = false

abbrev pub birth_found : List Entry → Option ℕ → Option Birth
birth_found log None = None
birth_found log (Some place) = birth_in (slice_get log place)

-- the births from the place on are noted
abbrev pub AreIndexed : {S : Type 0} → IndexMap Id ℕ S → List Entry → ℕ → Type 0
AreIndexed places log from =
    (o : Id) → birth_found log (found places o) ≡ birth_at (flat_map born_in (drop from log)) o

pub record IsIndexOf (index : BirthIndex) (log : List Entry) : Type 0 where
  pub main : birth_of index.main ≡ main_birth
  pub born : AreIndexed index.places log 0

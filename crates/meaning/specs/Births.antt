-- Births with the ids of the objects that they make.
use Rattle.std.specs.Prelude.{◌≡◌, ℕ, ◌+◌, ◌-◌, Bool, true, ◌&&◌, ◌==◌, nat_lt, not, if◌then◌else◌, List, [], ◌∷◌, Option, Some, None}
use Rattle.meaning.specs.Values.{Birth, results_of, Id}
use Rattle.meaning.specs.Runs.{ids_from, behind}

-- what was born, and the first of its objects, which have ids that follow one another
pub record Bearing : Type 0 where
  pub object : Id
  pub birth : Birth

-- births with the ids that they take, from the base on
abbrev pub numbered : Id → List Birth → List Bearing
numbered base [] = []
numbered base (b ∷ bs) = record { object = base; birth = b } ∷ numbered (behind base b) bs

unfoldable pub same_id : Id → Id → Bool
same_id o p = (o.owner == p.owner) && (o.serial == p.serial)

-- what was born with this first object
abbrev pub birth_at : List Bearing → Id → Option Birth
birth_at [] o = None
birth_at (x ∷ xs) o = if same_id x.object o then Some x.birth else birth_at xs o

-- the object is one of those that were born there
unfoldable pub is_made_by : Bearing → Id → Bool
is_made_by x o = (x.object.owner == o.owner) && (not (nat_lt o.serial x.object.serial) && nat_lt o.serial (x.object.serial + results_of x.birth))

-- an object as one of the results of a birth, counted from 0
pub record Part : Type 0 where
  pub born : Bearing
  pub place : ℕ

abbrev pub part_of : Bearing → Id → Part
part_of x o = record { born = x; place = o.serial - x.object.serial }

-- the birth of which the object is a result
abbrev pub part_at : List Bearing → Id → Option Part
part_at [] o = None
part_at (x ∷ xs) o = if is_made_by x o then Some (part_of x o) else part_at xs o

-- a birth has this first object
abbrev pub IsFirstOf : List Bearing → Id → Type 0
IsFirstOf xs o = (b : Birth) × (birth_at xs o ≡ Some b)

-- the birth of each object stands at its first object, and what stands there is the birth of all its objects
pub record AreGrouped (xs : List Bearing) : Type 0 where
  pub firsts : (o : Id) (p : Part) → part_at xs o ≡ Some p → birth_at xs p.born.object ≡ Some p.born.birth
  pub whole :
      (o q : Id) (b : Birth) → birth_at xs o ≡ Some b → is_made_by (record { object = o; birth = b }) q ≡ true →
      part_at xs q ≡ Some (part_of (record { object = o; birth = b }) q)

-- none of the birth's objects is born yet
abbrev pub IsNew : List Bearing → Bearing → Type 0
IsNew xs x = (o : Id) → is_made_by x o ≡ true → part_at xs o ≡ None

-- the objects of a birth in order
abbrev pub objects_in : Bearing → List Id
objects_in x = ids_from x.object (results_of x.birth)

abbrev pub objects_with : Id → Option Birth → List Id
objects_with o None = []
objects_with o (Some b) = ids_from o (results_of b)

-- those of the birth with this first object
abbrev pub objects_at : List Bearing → Id → List Id
objects_at xs o = objects_with o (birth_at xs o)

-- Which objects are held, and so are not released.
use Rattle.std.specs.Prelude.{◌≡◌, ℕ, Bool, true, false, ◌&&◌, ◌||◌, if◌then◌else◌, List, [], ◌∷◌, ◌++◌, Some, slice_get, not}
use Rattle.std.specs.List.{list_any}
use Rattle.script_laws.specs.of_meaning.Values.{Value, Outcome, Val, Argument, Birth, Put, Task, Id}
use Rattle.script_laws.specs.of_meaning.Births.{same_id, is_made_by, Part, part_at, objects_in, objects_at}
use Rattle.log_entries.specs.of_values.Listed.{ids_listed, ids_in_outcome}
use Rattle.event_log.specs.Entries.{Attempt, Entry, Begun, Born, Got, Ended, main_object}
use Rattle.event_log.specs.Words.{attempt, births, Lineage, lines, worker_of, ends_of, faults_of, accepts_of, releases_of}
use Rattle.event_log.specs.Events.{is_live, worker_lives}
use Rattle.event_log.specs.Breaks.{Among, is_some}

unfoldable pub is_one_of : List Id → Id → Bool
is_one_of os z = list_any (λ o. same_id o z) os

-- ---- anchored objects

-- with those found so far, in birth order
abbrev pub anchored_from : List Entry → List Id → List Lineage → List Id
anchored_from log found [] = found
anchored_from log found (x ∷ xs) =
    anchored_from log (if is_live x.object.owner log && is_one_of found x.bearer.object then found ++ x.object ∷ [] else found) xs

-- main's object, and each whose owner lives and that an attempt of an anchored object bore; the first object of a birth stands for all
unfoldable pub anchored : List Entry → List Id
anchored log = anchored_from log (if is_live 1 log then main_object ∷ [] else []) (lines log)

abbrev pub is_anchored : Id → List Entry → Bool
is_anchored o log = is_one_of (anchored log) o

-- ---- what names an object

abbrev pub ids_of_arguments : List Argument → List Id
ids_of_arguments [] = []
ids_of_arguments (a ∷ args) = ids_listed a.value ++ ids_of_arguments args

-- the ids in a put value or in a task's arguments
abbrev pub ids_of_birth : Birth → List Id
ids_of_birth (Put v) = ids_listed v
ids_of_birth (Task g args depth retries others) = ids_of_arguments args

abbrev pub ids_of_outcomes : List Outcome → List Id
ids_of_outcomes [] = []
ids_of_outcomes (c ∷ cs) = ids_in_outcome c ++ ids_of_outcomes cs

-- the object's put value or arguments have the id, or one of the contents with which an attempt of its task ended
pub data HasId (log : List Entry) (e z : Id) : Type 0 where
  InBirth : (part : Part) → part_at (births log) e ≡ Some part → Among z (ids_of_birth part.born.birth) → HasId log e z
  InContents : (part : Part) (number : ℕ) (cs : List Outcome) → part_at (births log) e ≡ Some part →
      Among cs (ends_of (attempt part.born.object number) log) → Among z (ids_of_outcomes cs) → HasId log e z

-- ---- safe ids

-- the attempt made that content of the object: it put it, or ended with it in its place
pub data Makes (log : List Entry) (b : Attempt) (y : Id) : Outcome → Type 0 where
  ByPut : (v : Value) → Among (Born y b (Put v)) log → Makes log b y (Val v)
  ByEnd : (part : Part) (cs : List Outcome) (c : Outcome) → part_at (births log) y ≡ Some part → b.object ≡ part.born.object →
      Among (Ended b cs) log → slice_get cs part.place ≡ Some c → Makes log b y c

-- an id is safe in an attempt where the owners of all objects by which it came there live
pub data Safe (log : List Entry) : Attempt → Id → Type 0 where
  -- the attempt bore it
  Bore : (a : Attempt) (z o : Id) (birth : Birth) → Among (Born o a birth) log → is_made_by (record { object = o; birth = birth }) z ≡ true → Safe log a z
  -- it stands in the arguments, the owner of the attempt's object lives, and it is safe in the attempt that bore that object
  Given : (a b : Attempt) (z : Id) (birth : Birth) → Among (Born a.object b birth) log → Among z (ids_of_birth birth) → is_live a.object.owner log ≡ true →
      Safe log b z → Safe log a z
  -- it stands in a content of y that the attempt got, y is safe there, its owner lives, and it is safe in the attempt that made that content
  Gained : (a b : Attempt) (y z : Id) (c : Outcome) → Among (Got a y c) log → Among z (ids_in_outcome c) → Safe log a y → is_live y.owner log ≡ true →
      Makes log b y c → Safe log b z → Safe log a z

-- ---- held objects

abbrev pub are_released : List Id → List Entry → Bool
are_released [] log = true
are_released (o ∷ os) log = is_some (releases_of o log) && are_released os log

-- the attempt neither ended nor has a fault
abbrev pub is_open : Attempt → List Entry → Bool
is_open a log = not (is_some (ends_of a log)) && not (is_some (faults_of a log))

pub data IsHeld (z : Id) (log : List Entry) : Type 0 where
  -- by an open attempt of an anchored object, on a live worker, in which it is safe
  ByAttempt : (a : Attempt) (w : ℕ) → Among (Begun a w) log → is_anchored a.object log ≡ true → is_live w log ≡ true → is_open a log ≡ true →
      Safe log a z → IsHeld z log
  -- by an anchored object that has it in its birth, until all of that birth's objects are released, where it is safe in what bore that object
  ByBirth : (e : Id) (b : Attempt) (birth : Birth) → Among (Born e b birth) log → is_anchored e log ≡ true →
      are_released (objects_in (record { object = e; birth = birth })) log ≡ false → Among z (ids_of_birth birth) → Safe log b z → IsHeld z log
  -- by contents of an attempt of an anchored object, until all its objects are released, where it is safe there, and accepted or its worker lives
  ByContents : (a : Attempt) (cs : List Outcome) → Among (Ended a cs) log → is_anchored a.object log ≡ true →
      are_released (objects_at (births log) a.object) log ≡ false → (is_some (accepts_of a log) || worker_lives (worker_of a log) log) ≡ true →
      Among z (ids_of_outcomes cs) → Safe log a z → IsHeld z log

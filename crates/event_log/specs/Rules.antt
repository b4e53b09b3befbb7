-- What each entry of a log needs of those before it.
use Rattle.std.specs.Prelude.{◌≡◌, ℕ, ◌+◌, ◌≤◌, true, false, List, [], ◌∷◌, ◌++◌, ◌⊎◌, length, slice_get, Option, Some, None}
use Rattle.std.specs.List.{AllByRecursion}
use Rattle.script_laws.specs.of_meaning.Lists.{IsFirst}
use Rattle.script_laws.specs.of_meaning.Values.{Name, Value, Outcome, Val, Argument, Birth, Put, Task, Id, Named}
use Rattle.script_laws.specs.of_meaning.Runs.{Stop, Needs, Over, Piece}
use Rattle.script_laws.specs.of_meaning.Births.{same_id, numbered, birth_at, Part, part_at, objects_at}
use Rattle.script_laws.specs.of_meaning.Meaning.{replay}
use Rattle.log_entries.specs.of_task_spec.Dereferenced.{dereferenced_in}
use Rattle.event_log.specs.Entries.{Attempt, OwnerDied, PutLost, RetriesUsed, Fault, Event, Claim, Commit, Deliver, Tick, Notice, NoticeNode, Entry}
use Rattle.event_log.specs.Entries.{In, Refused, Opened, Begun, Born, Got, Printed, Ended, Accepted, Faulted, Resolved, Released, main_object}
use Rattle.event_log.specs.Entries.{main_attempt}
use Rattle.event_log.specs.Words.{attempt, births, next_serial, own_births, bearers_of, runs_of, worker_of, answers_of, printed_by, ends_of, Lack}
use Rattle.event_log.specs.Words.{faults_of, accepts_of, resolves_of, releases_of, opened}
use Rattle.event_log.specs.Events.{under_way, worker_of_job, node_lives, node_of, is_killed, is_live, was_told}
use Rattle.event_log.specs.Breaks.{Among, Broken, AllBroken, Cause}
use Rattle.event_log.specs.Holding.{HasId, IsHeld}
pub use Rattle.event_log.specs.Settings.{Receiver, ToWorker, ToNode, Setting}
use Rattle.event_log.specs.Causes.{MayRefuse}

-- ---- words of the rules

abbrev pub worker_to : Option Receiver → Option ℕ
worker_to None = None
worker_to (Some (ToWorker w)) = Some w
worker_to (Some (ToNode n)) = None

-- the worker whose own event it is: its claims, ticks and notices, the commits of its jobs, and the deliveries to it
abbrev pub actor : Setting → List Entry → Event → Option ℕ
actor s log (Claim w) = Some w
actor s log (Commit j) = worker_of_job j log
actor s log (Deliver m) = worker_to (s.receiver m)
actor s log (Tick w) = Some w
actor s log (Notice w v) = Some w
actor s log (NoticeNode w n) = Some w
actor s log _ = None

-- an event of the worker's own is under way, and the worker lives
pub record IsOwn (s : Setting) (before : List Entry) (w : ℕ) : Type 0 where
  pub event : Event
  pub now : under_way before ≡ Some event
  pub own : actor s before event ≡ Some w
  pub lives : is_live w before ≡ true

-- the commit of a job of the attempt's own worker is under way, and the worker lives
pub record IsOwnCommit (before : List Entry) (a : Attempt) (w : ℕ) : Type 0 where
  pub job : ℕ
  pub now : under_way before ≡ Some (Commit job)
  pub own : worker_of_job job before ≡ Some w
  pub runs : worker_of a before ≡ Some w
  pub lives : is_live w before ≡ true

-- the attempt goes on, and this is what it does on its answers so far, its births taking ids from the base on
pub record Replays (s : Setting) (before : List Entry) (a : Attempt) (base : Id) (p : Piece) : Type 0 where
  pub spec : Birth
  pub born : birth_at (births before) a.object ≡ Some spec
  pub ended : ends_of a before ≡ []
  pub faulted : faults_of a before ≡ []
  pub replayed : p ≡ replay s.script spec base (answers_of a before)

-- the attempt stops so on its answers so far, all its births and prints logged
pub record Stops (s : Setting) (before : List Entry) (a : Attempt) (stop : Stop) : Type 0 where
  pub base : Id
  pub p : Piece
  pub replays : Replays s before a base p
  pub own : own_births a before ≡ numbered base p.births
  pub prints : printed_by a before ≡ p.prints
  pub stopped : p.stop ≡ stop

-- an attempt of the task of which the object is a result ended with the content in its place
pub record IsResult (before : List Entry) (y : Id) (c : Outcome) : Type 0 where
  pub part : Part
  pub born : part_at (births before) y ≡ Some part
  pub number : ℕ
  pub contents : List Outcome
  pub ended : Among contents (ends_of (attempt part.born.object number) before)
  pub content : slice_get contents part.place ≡ Some c

-- the object's content: what was put, or what an attempt ended with in its place
abbrev pub HasContent : List Entry → Id → Outcome → Type 0
HasContent before y c = ((v : Value) × (birth_at (births before) y ≡ Some (Put v)) × (c ≡ Val v)) ⊎ IsResult before y c

-- it is the last attempt of its task that was begun
abbrev pub IsLast : List Entry → Attempt → Type 0
IsLast before a = length (runs_of a.object before) ≡ a.number + 1

-- steps from an object to one from which a call computes it, by arguments that are dereferenced
abbrev pub AreSteps : List Entry → Id → List Id → Id → Type 0
AreSteps before o [] x = o ≡ x
AreSteps before o (p ∷ ps) x = ((q : Part) × (part_at (births before) o ≡ Some q) × Among p (dereferenced_in q.born.birth)) × AreSteps before p ps x

-- one of the objects of the birth with this first object isn't resolved
abbrev pub IsUnresolved : List Entry → Id → Type 0
IsUnresolved before o = (p : Id) × Among p (objects_at (births before) o) × (resolves_of p before ≡ [])

-- none of them is resolved because its retries are used up: of such a task nothing is accepted any more
abbrev pub AreUnspent : List Entry → Id → Type 0
AreUnspent before o =
    (p : Id) (q : Part) → part_at (births before) p ≡ Some q → q.born.object ≡ o → Among (record { kind = RetriesUsed; object = p }) (resolves_of p before) → ⊥

-- none of them is released
abbrev pub AreUnreleased : List Entry → Id → Type 0
AreUnreleased before o = AllByRecursion (λ p. releases_of p before ≡ []) (objects_at (births before) o)

-- ---- what each entry needs before it

-- it is no delivery to a dead worker
abbrev pub IsHeard : Setting → List Entry → Event → Type 0
IsHeard s before (Deliver m) = ((n : ℕ) × (s.receiver m ≡ Some (ToNode n))) ⊎ ((w : ℕ) × (s.receiver m ≡ Some (ToWorker w)) × (is_live w before ≡ true))
IsHeard s before _ = Unit {0}

-- a worker gets the next number, on a live node; the dead do nothing
pub record MayOpen (s : Setting) (before : List Entry) (w n : ℕ) : Type 0 where
  pub event : Event
  pub now : under_way before ≡ Some event
  pub heard : IsHeard s before event
  pub next : w ≡ length (opened before) + 1
  pub lives : node_lives s.nodes n before ≡ true

-- in an own event of the owner, with no object of the task released and one not resolved: all earlier attempts are broken, and retries are left
pub record MayBegin (s : Setting) (before : List Entry) (a : Attempt) (w : ℕ) : Type 0 where
  pub own : IsOwn s before a.object.owner
  pub function : Name
  pub args : List Argument
  pub depth : ℕ
  pub retries : ℕ
  pub others : ℕ
  pub born : birth_at (births before) a.object ≡ Some (Task function args depth retries others)
  pub unreleased : AreUnreleased before a.object
  pub unresolved : IsUnresolved before a.object
  pub node : ℕ
  pub place : node_of w before ≡ Some node
  pub next : a.number ≡ length (runs_of a.object before)
  pub broken : AllBroken before a.object a.number
  pub few : a.number ≤ retries

-- in a commit of the attempt's own, the next birth of its replay, with the next ids of its worker
pub record MayBear (s : Setting) (before : List Entry) (o : Id) (a : Attempt) (b : Birth) : Type 0 where
  pub job : IsOwnCommit before a o.owner
  pub base : Id
  pub p : Piece
  pub replays : Replays s before a base p
  pub own : IsFirst (own_births a before ++ record { object = o; birth = b } ∷ []) (numbered base p.births)
  pub next : o.serial ≡ next_serial o.owner (births before)

-- in a commit of main's own, the next print of its replay, whose births are all logged
pub record MayPrint (s : Setting) (before : List Entry) (v : Value) : Type 0 where
  pub worker : ℕ
  pub job : IsOwnCommit before main_attempt worker
  pub base : Id
  pub p : Piece
  pub replays : Replays s before main_attempt base p
  pub own : own_births main_attempt before ≡ numbered base p.births
  pub prints : IsFirst (printed_by main_attempt before ++ v ∷ []) p.prints

-- in a commit of the attempt's own, its replay ends so
pub record MayEnd (s : Setting) (before : List Entry) (a : Attempt) (cs : List Outcome) : Type 0 where
  pub worker : ℕ
  pub job : IsOwnCommit before a worker
  pub stops : Stops s before a (Over cs)

-- in an own event of the attempt's worker, which wasn't told that the owner is dead: the attempt needs the object, and that is its content
pub record MayGet (s : Setting) (before : List Entry) (a : Attempt) (y : Id) (c : Outcome) : Type 0 where
  pub worker : ℕ
  pub runs : worker_of a before ≡ Some worker
  pub own : IsOwn s before worker
  pub needs : Stops s before a (Needs (Named y))
  pub content : HasContent before y c
  pub untold : was_told worker y.owner before ≡ false

-- in an own event of the owner, once: the attempt, not main's, ended and is the last begun; one of its objects isn't resolved, and none for want of retries
pub record MayAccept (s : Setting) (before : List Entry) (a : Attempt) : Type 0 where
  pub own : IsOwn s before a.object.owner
  pub not_main : same_id a.object main_object ≡ false
  pub contents : List Outcome
  pub ended : Among contents (ends_of a before)
  pub last : IsLast before a
  pub unresolved : IsUnresolved before a.object
  pub unspent : AreUnspent before a.object
  pub once : accepts_of a before ≡ []

-- the object was released, and the fault is OwnerDied of an object of a dead owner that had its id
pub record DiedAbove (before : List Entry) (y : Id) (f : Fault) : Type 0 where
  pub released : Among y (releases_of y before)
  pub above : Id
  pub fault : f ≡ record { kind = OwnerDied; object = above }
  pub dead : is_killed above.owner before ≡ true
  pub had : HasId before above y

-- why a get is answered so: the object is resolved to it, its owner's death was told, or it was released and an object of a dead owner had it
abbrev pub IsFaultOf : List Entry → ℕ → Id → Fault → Type 0
IsFaultOf before w y f =
    Among f (resolves_of y before) ⊎ ((f ≡ record { kind = OwnerDied; object = y }) × (was_told w y.owner before ≡ true)) ⊎ DiedAbove before y f

-- in an own event of the attempt's worker, the attempt needs the object, which has the fault; and the fault has its cause
pub record MayFault (s : Setting) (before : List Entry) (a : Attempt) (y : Id) (f : Fault) : Type 0 where
  pub worker : ℕ
  pub runs : worker_of a before ≡ Some worker
  pub own : IsOwn s before worker
  pub needs : Stops s before a (Needs (Named y))
  pub reason : IsFaultOf before worker y f
  pub cause : Cause before f

-- the fault says that the object was put and lost, or that its runs are used up
abbrev pub IsLoss : Fault → Id → Type 0
IsLoss f o = (f ≡ record { kind = PutLost; object = o }) ⊎ (f ≡ record { kind = RetriesUsed; object = o })

-- the last attempt of the object's task has the fault
pub record LastFaulted (before : List Entry) (o : Id) (f : Fault) : Type 0 where
  pub part : Part
  pub born : part_at (births before) o ≡ Some part
  pub number : ℕ
  pub last : IsLast before (attempt part.born.object number)
  pub got : Id
  pub faulted : Among (record { object = got; fault = f }) (faults_of (attempt part.born.object number) before)

-- the last attempt of the object's task is broken, and an object from which it has to be made again is lost for good
pub record LostBelow (before : List Entry) (o : Id) (f : Fault) : Type 0 where
  pub part : Part
  pub born : part_at (births before) o ≡ Some part
  pub number : ℕ
  pub last : IsLast before (attempt part.born.object number)
  pub broken : Broken before (attempt part.born.object number)
  pub below : Id
  pub steps : List Id
  pub reached : AreSteps before o steps below
  pub loss : IsLoss f below

-- in an own event of the owner, once, with a cause; main's object has no owner that could be asked for it
pub record MayResolve (s : Setting) (before : List Entry) (o : Id) (f : Fault) : Type 0 where
  pub own : IsOwn s before o.owner
  pub not_main : same_id o main_object ≡ false
  pub once : resolves_of o before ≡ []
  pub reason : LastFaulted before o f ⊎ IsLoss f o ⊎ LostBelow before o f
  pub cause : Cause before f

-- the attempt is the last one of its task that was begun, or an object of the task is resolved
abbrev pub IsFinal : List Entry → Attempt → Type 0
IsFinal before a = IsLast before a ⊎ ((p : Id) × (f : Fault) × Among p (objects_at (births before) a.object) × Among f (resolves_of p before))

-- an attempt of the object's task is accepted, and it is final
pub record IsAccepted (before : List Entry) (o : Id) : Type 0 where
  pub part : Part
  pub born : part_at (births before) o ≡ Some part
  pub number : ℕ
  pub accepted : Among (attempt part.born.object number) (accepts_of (attempt part.born.object number) before)
  pub final : IsFinal before (attempt part.born.object number)

-- what the object is stands: it was put, is resolved, or an attempt of its task is accepted and final
abbrev pub IsSettled : List Entry → Id → Type 0
IsSettled before o = ((v : Value) × (birth_at (births before) o ≡ Some (Put v))) ⊎ ((f : Fault) × Among f (resolves_of o before)) ⊎ IsAccepted before o

-- in an own event of the owner, once: it is settled, the attempt that bore it has ended or has a fault, and it isn't held
pub record MayRelease (s : Setting) (before : List Entry) (o : Id) : Type 0 where
  pub own : IsOwn s before o.owner
  pub once : releases_of o before ≡ []
  pub settled : IsSettled before o
  pub bearer : Attempt
  pub bore : Among bearer (bearers_of o before)
  pub over : ((cs : List Outcome) × Among cs (ends_of bearer before)) ⊎ ((x : Lack) × Among x (faults_of bearer before))
  pub unheld : IsHeld o before → ⊥

-- the entry may stand behind those before; for an event see below
abbrev pub Allowed : Setting → List Entry → Entry → Type 0
Allowed s before (In e seat) = Unit {0}
Allowed s before (Refused code) = MayRefuse s before code
Allowed s before (Opened w n) = MayOpen s before w n
Allowed s before (Begun a w) = MayBegin s before a w
Allowed s before (Born o a b) = MayBear s before o a b
Allowed s before (Got a y c) = MayGet s before a y c
Allowed s before (Printed v) = MayPrint s before v
Allowed s before (Ended a cs) = MayEnd s before a cs
Allowed s before (Accepted a) = MayAccept s before a
Allowed s before (Faulted a y f) = MayFault s before a y f
Allowed s before (Resolved o f) = MayResolve s before o f
Allowed s before (Released o) = MayRelease s before o

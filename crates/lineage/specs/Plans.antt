-- What is to be done about a lost object: which objects are made again, or why none is.
use Rattle.std.specs.Prelude.{Bool, Err, List, None, Ok, Option, Result, Some, [], true, ◌+◌, ◌<◌, ◌≡◌, ◌≤◌, ◌∷◌, ℕ}
use Rattle.std.specs.List.{AllByRecursion}
use Rattle.event_log.specs.Entries.{Fault}
use Rattle.protocol.specs.Sets.{has}
use Rattle.protocol.specs.Steps.{WorkerContext}
use Rattle.protocol.specs.Recovery.{first_stop, is_lost_here, made_from, members}
pub use Rattle.lineage.specs.declared.recovery.Plan.{Plan}
pub use Rattle.lineage.specs.declared.recovery.Stop.{Stop}
pub use Rattle.lineage.specs.declared.recovery.Stop.TheVariants.{CannotBeRemade, NoMemory}

abbrev pub planned_by : List ℕ → Option Fault → Result Plan Stop
planned_by ks None = Ok (record { serials = ks })
planned_by ks (Some f) = Err (CannotBeRemade f)

-- the plan for the object of that serial
abbrev pub planned : WorkerContext → ℕ → Result Plan Stop
planned h k = let ks : List ℕ = members h k in planned_by ks (first_stop h ks)

-- it is what was planned, unless memory was wanting
abbrev pub IsPlanned : WorkerContext → ℕ → Result Plan Stop → Type 0
IsPlanned h k (Ok plan) = Ok plan ≡ planned h k
IsPlanned h k (Err (CannotBeRemade f)) = Err (CannotBeRemade f) ≡ planned h k
IsPlanned h k (Err NoMemory) = Unit {0}

-- ---- what a plan is to be

-- of the objects that the test names, it names the lost dereferenced arguments too
abbrev pub IsClosed : WorkerContext → (ℕ → Bool) → Type 0
IsClosed h p = (k : ℕ) → p k ≡ true → AllByRecursion (λ o. is_lost_here h o ≡ true → p o.serial ≡ true) (made_from h k)

-- what an object is made from is older
abbrev pub ArgumentsAreOlder : WorkerContext → Type 0
ArgumentsAreOlder h = (k : ℕ) → AllByRecursion (λ o. is_lost_here h o ≡ true → o.serial < k) (made_from h k)

-- each is greater than the one before it
abbrev pub Ascends : ℕ → List ℕ → Type 0
Ascends low [] = Unit {0}
Ascends low (k ∷ ks) = (low ≤ k) × Ascends (k + 1) ks

-- the least closed set with that object in it, in birth order
pub record IsLeast (h : WorkerContext) (k : ℕ) (ks : List ℕ) : Type 0 where
  pub there : has ks k ≡ true
  pub closed : IsClosed h (has ks)
  pub least : (p : ℕ → Bool) → p k ≡ true → IsClosed h p → (j : ℕ) → has ks j ≡ true → p j ≡ true
  pub ordered : Ascends 1 ks

-- that set is made again, unless one of it can't be: then the first such one in birth order is the reason
abbrev pub IsRight : WorkerContext → ℕ → Result Plan Stop → Type 0
IsRight h k (Ok plan) = IsLeast h k plan.serials × (first_stop h plan.serials ≡ None)
IsRight h k (Err (CannotBeRemade f)) = (ks : List ℕ) × IsLeast h k ks × (first_stop h ks ≡ Some f)
IsRight h k (Err NoMemory) = Unit {0}

-- so it is where the object's number counts from 1 and what an object is made from is older
abbrev pub IsRightPlan : WorkerContext → ℕ → Result Plan Stop → Type 0
IsRightPlan h k r = ArgumentsAreOlder h → 1 ≤ k → IsRight h k r

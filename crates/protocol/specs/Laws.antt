-- What the functions on holders and plans mean, said without going through their lists.
use Rattle.std.specs.Prelude.{Bool, List, None, Some, [], false, true, ℕ, ◌++◌, ◌+◌, ◌<◌, ◌≡◌, ◌≤◌, ◌∷◌}
use Rattle.std.specs.List.{AllByRecursion}
use Rattle.protocol_data.specs.of_meaning.Values.{Id}
use Rattle.protocol_data.specs.of_event_log.Entries.{Fault}
use Rattle.protocol_data.specs.of_event_log.Breaks.{Among}
use Rattle.protocol.specs.Sets.{has, has_id}
use Rattle.protocol.specs.Tables.{Object, is_held}
use Rattle.protocol.specs.Steps.{WorkerContext}
use Rattle.protocol.specs.Recovery.{first_stop, is_lost_here, made_from, members, stop_at}

-- ---- holders

-- e came to hold the object, and wasn't removed since or before
pub record IsHolder (x : Object) (e : Id) : Type 0 where
  pub added : Among e x.added
  pub stays : has_id x.removed e ≡ false

-- an object is held exactly where somebody holds it
pub record HeldMeans : Type 0 where
  pub by_one : (x : Object) (e : Id) → IsHolder x e → is_held x ≡ true
  pub of_one : (x : Object) → is_held x ≡ true → (e : Id) × IsHolder x e

-- ---- plans

-- the own object i was made from o, which is the worker's own and lost
pub record IsLostArgument (h : WorkerContext) (i : ℕ) (o : Id) : Type 0 where
  pub argument : Among o (made_from h i)
  pub lost : is_lost_here h o ≡ true

-- with each object of these serials, its lost arguments are among them
abbrev pub IsClosed : WorkerContext → (ℕ → Bool) → Type 0
IsClosed h these = (i : ℕ) (o : Id) → these i ≡ true → IsLostArgument h i o → these o.serial ≡ true

-- what an object is made from is older
abbrev pub AreOlder : WorkerContext → Type 0
AreOlder h = (i : ℕ) (o : Id) → IsLostArgument h i o → o.serial < i

-- these serials rise, from c on
abbrev pub Rises : ℕ → List ℕ → Type 0
Rises c [] = Unit {0}
Rises c (k ∷ ks) = (c ≤ k) × Rises (k + 1) ks

-- each of these can be made again
abbrev pub CanBeMade : WorkerContext → List ℕ → Type 0
CanBeMade h ks = AllByRecursion (λ k. stop_at h k ≡ None) ks

-- f is why the first of these stops that can't be made again
pub record IsFirstStop (h : WorkerContext) (ks : List ℕ) (f : Fault) : Type 0 where
  pub before : List ℕ
  pub serial : ℕ
  pub behind : List ℕ
  pub parts : ks ≡ before ++ serial ∷ behind
  pub none_before : CanBeMade h before
  pub stops : stop_at h serial ≡ Some f

-- the objects to make again for k are the least closed set that has k, in birth order; a stop is that of the first that can't be made again
pub record PlanMeans : Type 0 where
  pub has_it : (h : WorkerContext) (k : ℕ) → 1 ≤ k → has (members h k) k ≡ true
  pub closed : (h : WorkerContext) (k : ℕ) → AreOlder h → IsClosed h (has (members h k))
  pub least : (h : WorkerContext) (k : ℕ) (these : ℕ → Bool) → these k ≡ true → IsClosed h these → (i : ℕ) → has (members h k) i ≡ true → these i ≡ true
  pub in_birth_order : (h : WorkerContext) (k : ℕ) → Rises 1 (members h k)
  pub stopped : (h : WorkerContext) (ks : List ℕ) (f : Fault) → first_stop h ks ≡ Some f → IsFirstStop h ks f
  pub unstopped : (h : WorkerContext) (ks : List ℕ) → first_stop h ks ≡ None → CanBeMade h ks

-- What an event comes to, where it is within the limits and where it isn't.
use Rattle.std.proofs.Common.{◌≡◌, ℕ, ◌+◌, Bool, true, false, length, Some, None, refl, ap, ◌∙◌}
use Rattle.std.specs.Prelude.{if◌then◌else◌}
use Rattle.protocol.specs.Messages.{Message, Endpoint}
use Rattle.protocol.specs.Slots.{forgets, node_reached}
use Rattle.protocol.specs.Steps.{WorkerContext}
use Rattle.protocol.specs.Cluster.{Transition, ClusterState, after_worker, moved, node_at, node_does}
use Rattle.step_laws.specs.Opens.{fits, opened_at, opened_by_death}
use Rattle.step_laws.specs.Limits.{entries_within, is_within, whole_within}
use Rattle.step_laws.proofs.Counts.{died_counts, reached_counts, worker_counts}

pub taken_whole : (c : ClusterState) (made : ℕ) (m : Transition) → is_within made m.whole ≡ true → whole_within made c m ≡ m.whole
taken_whole c made m e = ap (λ b. if b then m.whole else c) e

pub taken_entries : (made : ℕ) (m : Transition) → is_within made m.whole ≡ true → entries_within made m ≡ Some m.out.entries
taken_entries made m e = ap (λ b. if b then Some m.out.entries else None) e

pub refused_whole : (c : ClusterState) (made : ℕ) (m : Transition) → is_within made m.whole ≡ false → whole_within made c m ≡ c
refused_whole c made m e = ap (λ b. if b then m.whole else c) e

pub refused_entries : (made : ℕ) (m : Transition) → is_within made m.whole ≡ false → entries_within made m ≡ None
refused_entries made m e = ap (λ b. if b then Some m.out.entries else None) e

either_way : {X : Type 0} (x : X) (b : Bool) → (if b then x else x) ≡ x
either_way x true = refl
either_way x false = refl

-- where nothing happens the whole is as it was
pub nothing_whole : (c : ClusterState) (made : ℕ) → whole_within made c (moved c) ≡ c
nothing_whole c made = either_way c (is_within made c)

-- both of them
pub record Taken (c : ClusterState) (made : ℕ) (m : Transition) : Type 0 where
  pub whole : whole_within made c m ≡ m.whole
  pub entries : entries_within made m ≡ Some m.out.entries

pub record Stays (c : ClusterState) (made : ℕ) (m : Transition) : Type 0 where
  pub whole : whole_within made c m ≡ c
  pub entries : entries_within made m ≡ None

is_taken : (c : ClusterState) (made : ℕ) (m : Transition) → is_within made m.whole ≡ true → Taken c made m
is_taken c made m e = record { whole = taken_whole c made m e; entries = taken_entries made m e }

stays : (c : ClusterState) (made : ℕ) (m : Transition) → is_within made m.whole ≡ false → Stays c made m
stays c made m e = record { whole = refused_whole c made m e; entries = refused_entries made m e }

pub worker_taken : (before c : ClusterState) (made w n : ℕ) (h : WorkerContext) → fits (length c.nodes) (length c.workers + h.there.opened) made ≡ true → Taken before made (after_worker c w n h)
worker_taken before c made w n h e = is_taken before made (after_worker c w n h) (worker_counts c made w n h ∙ e)

pub worker_stays : (before c : ClusterState) (made w n : ℕ) (h : WorkerContext) → fits (length c.nodes) (length c.workers + h.there.opened) made ≡ false → Stays before made (after_worker c w n h)
worker_stays before c made w n h e = stays before made (after_worker c w n h) (worker_counts c made w n h ∙ e)

pub reached_taken : (c : ClusterState) (made n : ℕ) (sender : Endpoint) (m : Message)
    → fits (length c.nodes) (length c.workers + opened_at (node_at c n) sender m) made ≡ true → Taken c made (node_does c n (λ h. node_reached h sender m))
reached_taken c made n sender m e = is_taken c made (node_does c n (λ h. node_reached h sender m)) (reached_counts c made n sender m ∙ e)

pub reached_stays : (c : ClusterState) (made n : ℕ) (sender : Endpoint) (m : Message)
    → fits (length c.nodes) (length c.workers + opened_at (node_at c n) sender m) made ≡ false → Stays c made (node_does c n (λ h. node_reached h sender m))
reached_stays c made n sender m e = stays c made (node_does c n (λ h. node_reached h sender m)) (reached_counts c made n sender m ∙ e)

pub died_taken : (before c : ClusterState) (made n w : ℕ)
    → fits (length c.nodes) (length c.workers + opened_by_death (node_at c n) w) made ≡ true → Taken before made (node_does c n (λ h. forgets h w))
died_taken before c made n w e = is_taken before made (node_does c n (λ h. forgets h w)) (died_counts c made n w ∙ e)

pub died_stays : (before c : ClusterState) (made n w : ℕ)
    → fits (length c.nodes) (length c.workers + opened_by_death (node_at c n) w) made ≡ false → Stays before made (node_does c n (λ h. forgets h w))
died_stays before c made n w e = stays before made (node_does c n (λ h. forgets h w)) (died_counts c made n w ∙ e)

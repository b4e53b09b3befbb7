-- A commit after which there would be more objects than any number says passes a limit.
use Rattle.std.proofs.Common.{◌≡◌, ◌≤◌, ℕ, ◌+◌, Bool, true, false, length, Some, None, refl, ap, ◌∙◌, arith}
use Rattle.std.specs.Prelude.{◌&&◌, nat_lt}
use Rattle.std.proofs.lemmas.Bool.Decides.{nat_tests}
use Rattle.step_laws.specs.Later.{counted}
use Rattle.step_laws.specs.Limits.{entries_limited, is_within, whole_limited}
use Rattle.step_laws.proofs.Later.{made_kept}
use Rattle.step_laws.proofs.Taken.{refused_entries, refused_whole}
use Rattle.protocol.specs.Commits.{commit_step}
use Rattle.protocol.specs.Events.{as_committed, committed, committed_by, objects_made}
use Rattle.protocol.specs.Jobs.{JobRecord, OfJob, Outcomes}
use Rattle.protocol.specs.Numbered.{changed_at, item_at}
use Rattle.protocol.specs.Cluster.{Transition, ClusterState, worker_does}

never : (b : Bool) → b && false ≡ false
never true = refl
never false = refl

too_many : (k : ℕ) → 1000001 ≤ k → nat_lt k 1000001 ≡ false
too_many k l = grind (arith, nat_tests, l)

past : (c : ClusterState) (k : ℕ) → 1000001 ≤ k → is_within k c ≡ false
past c k l =
    ap (λ b. (nat_lt (length c.nodes) 65 && nat_lt (length c.workers) 1025) && b) (too_many k l) ∙ never
    (nat_lt (length c.nodes) 65 && nat_lt (length c.workers) 1025)

-- what the commit comes to
abbrev comes_to : ClusterState → ℕ → Outcomes → JobRecord → Transition
comes_to c j d g = worker_does (counted (c.made + objects_made d.births) (changed_at c.jobs j as_committed) c) g.worker (λ h. commit_step h d)

made_then : (c : ClusterState) (j : ℕ) (d : Outcomes) (g : JobRecord) → item_at c.jobs j ≡ Some g → (committed c j (OfJob d)).whole.made ≡ c.made + objects_made d.births
made_then c j d g e =
    ap (λ o. (committed_by c j (OfJob d) o).whole.made) e
    ∙ made_kept (counted (c.made + objects_made d.births) (changed_at c.jobs j as_committed) c) g.worker (λ h. commit_step h d)

not_within : (c : ClusterState) (j : ℕ) (d : Outcomes) (g : JobRecord) → item_at c.jobs j ≡ Some g → 1000001 ≤ c.made + objects_made d.births
    → is_within (committed c j (OfJob d)).whole.made (committed c j (OfJob d)).whole ≡ false
not_within c j d g e l =
    ap (λ k. is_within k (committed c j (OfJob d)).whole) (made_then c j d g e) ∙ past (committed c j (OfJob d)).whole (c.made + objects_made d.births) l

pub past_whole : (c : ClusterState) (j : ℕ) (d : Outcomes) (g : JobRecord) → item_at c.jobs j ≡ Some g → 1000001 ≤ c.made + objects_made d.births
    → whole_limited c (committed c j (OfJob d)) ≡ c
past_whole c j d g e l = refused_whole c (committed c j (OfJob d)).whole.made (committed c j (OfJob d)) (not_within c j d g e l)

pub past_entries : (c : ClusterState) (j : ℕ) (d : Outcomes) (g : JobRecord) → item_at c.jobs j ≡ Some g → 1000001 ≤ c.made + objects_made d.births
    → entries_limited (committed c j (OfJob d)) ≡ None
past_entries c j d g e l = refused_entries (committed c j (OfJob d)).whole.made (committed c j (OfJob d)) (not_within c j d g e l)

-- Claims and commits: the jobs and the number of objects are noted after the worker's step.
use Rattle.std.proofs.Common.{◌≡◌, ℕ, ◌+◌, Bool, true, false, List, [], ◌∷◌, ◌++◌, length, Some, None, refl, sym, ap, ◌∙◌}
use Rattle.std.specs.Prelude.{if◌then◌else◌}
use Rattle.protocol.specs.of_event_log.Entries.{Entry}
use Rattle.step_laws.specs.Later.{counted}
use Rattle.step_laws.specs.Limits.{entries_limited, entries_within, is_within, whole_limited, whole_within}
use Rattle.step_laws.proofs.Later.{counted_later, jobs_kept, made_kept}
use Rattle.protocol.specs.Commits.{claim_step, commit_step}
use Rattle.protocol.specs.Events.{as_committed, claimed, committed, committed_by, objects_made}
use Rattle.protocol.specs.Jobs.{JobRecord, OfJob, Outcomes}
use Rattle.protocol.specs.Numbered.{changed_at, item_at}
use Rattle.protocol.specs.Steps.{WorkerContext}
use Rattle.protocol.specs.Cluster.{Transition, ClusterState, worker_does}

either_same : {X Y : Type 0} (f : X → Y) (x y : X) (z : Y) (b : Bool) → f x ≡ z → f y ≡ z → f (if b then x else y) ≡ z
either_same f x y z true e g = e
either_same f x y z false e g = g

-- whatever comes of it, the worker's step leaves the jobs and the number of objects
within_jobs : (c : ClusterState) (made w : ℕ) (f : WorkerContext → WorkerContext) → (whole_within made c (worker_does c w f)).jobs ≡ c.jobs
within_jobs c made w f = either_same (λ d. d.jobs) (worker_does c w f).whole c c.jobs (is_within made (worker_does c w f).whole) (jobs_kept c w f) refl

within_made : (c : ClusterState) (made w : ℕ) (f : WorkerContext → WorkerContext) → (whole_within made c (worker_does c w f)).made ≡ c.made
within_made c made w f = either_same (λ d. d.made) (worker_does c w f).whole c c.made (is_within made (worker_does c w f).whole) (made_kept c w f) refl

some_taken : (c : ClusterState) (made : ℕ) (jobs : List JobRecord) (m : Transition) (es : List Entry) (b : Bool) → (if b then Some m.out.entries else None) ≡ Some es
    → counted made jobs (if b then m.whole else c) ≡ (if b then counted made jobs m.whole else c)
some_taken c made jobs m es true e = refl
some_taken c made jobs m es false e = absurd cc

none_taken : (c x y : ClusterState) (m : Transition) (b : Bool) → (if b then Some m.out.entries else None) ≡ None → (if b then x else c) ≡ (if b then y else c)
none_taken c x y m true e = absurd cc
none_taken c x y m false e = refl

limited_as : (c : ClusterState) (made w : ℕ) (jobs : List JobRecord) (f : WorkerContext → WorkerContext)
    → whole_limited c (worker_does (counted made jobs c) w f) ≡ (if is_within made (worker_does c w f).whole then counted made jobs (worker_does c w f).whole else c)
limited_as c made w jobs f = ap (whole_limited c) (counted_later c made w jobs f)

pub entries_as : (c : ClusterState) (made w : ℕ) (jobs : List JobRecord) (f : WorkerContext → WorkerContext) → entries_limited (worker_does (counted made jobs c) w f) ≡ entries_within made (worker_does c w f)
entries_as c made w jobs f = ap entries_limited (counted_later c made w jobs f)

-- it was taken, and the jobs and objects are noted
noted : (c mid : ClusterState) (made w : ℕ) (jobs : List JobRecord) (f : WorkerContext → WorkerContext) (es : List Entry) → mid ≡ whole_within made c (worker_does c w f)
    → entries_within made (worker_does c w f) ≡ Some es → counted made jobs mid ≡ whole_limited c (worker_does (counted made jobs c) w f)
noted c mid made w jobs f es e t =
    ap (counted made jobs) e ∙ some_taken c made jobs (worker_does c w f) es (is_within made (worker_does c w f).whole) t ∙ sym (limited_as c made w jobs f)

-- it would pass a limit, and nothing is noted
not_noted : (c mid : ClusterState) (made w : ℕ) (jobs : List JobRecord) (f : WorkerContext → WorkerContext) → mid ≡ whole_within made c (worker_does c w f)
    → entries_within made (worker_does c w f) ≡ None → mid ≡ whole_limited c (worker_does (counted made jobs c) w f)
not_noted c mid made w jobs f e t =
    e ∙ none_taken c (worker_does c w f).whole (counted made jobs (worker_does c w f).whole) (worker_does c w f) (is_within made (worker_does c w f).whole) t ∙ sym (limited_as c made w jobs f)

-- ---- claims

abbrev next_job : ClusterState → ℕ → List JobRecord
next_job c w = record { worker = w; is_committed = false } ∷ []

abbrev pub claims : ClusterState → WorkerContext → WorkerContext
claims c h = claim_step h (length c.jobs + 1)

pub claimed_noted : (c mid : ClusterState) (w : ℕ) (es : List Entry) → mid ≡ whole_within c.made c (worker_does c w (claims c)) → entries_within c.made (worker_does c w (claims c)) ≡ Some es
    → record mid { jobs = mid.jobs ++ record { worker = w; is_committed = false } ∷ [] } ≡ whole_limited c (claimed c w)
claimed_noted c mid w es e t =
    let js : mid.jobs ≡ c.jobs = ap (λ d. d.jobs) e ∙ within_jobs c c.made w (claims c) in
    let ms : mid.made ≡ c.made = ap (λ d. d.made) e ∙ within_made c c.made w (claims c) in
    ap (λ xs. record mid { jobs = xs ++ next_job c w }) js
    ∙ ap (λ k. record mid { jobs = c.jobs ++ next_job c w; made = k }) ms
    ∙ noted c mid c.made w (c.jobs ++ next_job c w) (claims c) es e t

pub claimed_not_noted : (c mid : ClusterState) (w : ℕ) → mid ≡ whole_within c.made c (worker_does c w (claims c)) → entries_within c.made (worker_does c w (claims c)) ≡ None
    → mid ≡ whole_limited c (claimed c w)
claimed_not_noted c mid w e t = not_noted c mid c.made w (c.jobs ++ next_job c w) (claims c) e t

pub claimed_entries : (c : ClusterState) (w : ℕ) → entries_limited (claimed c w) ≡ entries_within c.made (worker_does c w (claims c))
claimed_entries c w = entries_as c c.made w (c.jobs ++ next_job c w) (claims c)

-- ---- commits

pub committed_noted : (c mid : ClusterState) (j made : ℕ) (d : Outcomes) (g : JobRecord) (es : List Entry) → item_at c.jobs j ≡ Some g → made ≡ c.made + objects_made d.births
    → mid ≡ whole_within made c (worker_does c g.worker (λ h. commit_step h d)) → entries_within made (worker_does c g.worker (λ h. commit_step h d)) ≡ Some es
    → record mid { jobs = changed_at mid.jobs j as_committed; made = made } ≡ whole_limited c (committed c j (OfJob d))
committed_noted c mid j made d g es i m e t =
    let js : mid.jobs ≡ c.jobs = ap (λ x. x.jobs) e ∙ within_jobs c made g.worker (λ h. commit_step h d) in
    ap (λ xs. record mid { jobs = changed_at xs j as_committed; made = made }) js
    ∙ noted c mid made g.worker (changed_at c.jobs j as_committed) (λ h. commit_step h d) es e t
    ∙ ap (λ k. whole_limited c (worker_does (counted k (changed_at c.jobs j as_committed) c) g.worker (λ h. commit_step h d))) m
    ∙ sym (ap (λ o. whole_limited c (committed_by c j (OfJob d) o)) i)

pub committed_not_noted : (c mid : ClusterState) (j made : ℕ) (d : Outcomes) (g : JobRecord) → item_at c.jobs j ≡ Some g → made ≡ c.made + objects_made d.births
    → mid ≡ whole_within made c (worker_does c g.worker (λ h. commit_step h d)) → entries_within made (worker_does c g.worker (λ h. commit_step h d)) ≡ None
    → mid ≡ whole_limited c (committed c j (OfJob d))
committed_not_noted c mid j made d g i m e t =
    not_noted c mid made g.worker (changed_at c.jobs j as_committed) (λ h. commit_step h d) e t
    ∙ ap (λ k. whole_limited c (worker_does (counted k (changed_at c.jobs j as_committed) c) g.worker (λ h. commit_step h d))) m
    ∙ sym (ap (λ o. whole_limited c (committed_by c j (OfJob d) o)) i)

pub committed_entries : (c : ClusterState) (j made : ℕ) (d : Outcomes) (g : JobRecord) → item_at c.jobs j ≡ Some g → made ≡ c.made + objects_made d.births
    → entries_limited (committed c j (OfJob d)) ≡ entries_within made (worker_does c g.worker (λ h. commit_step h d))
committed_entries c j made d g i m =
    ap (λ o. entries_limited (committed_by c j (OfJob d) o)) i
    ∙ sym (ap (λ k. entries_limited (worker_does (counted k (changed_at c.jobs j as_committed) c) g.worker (λ h. commit_step h d))) m)
    ∙ entries_as c made g.worker (changed_at c.jobs j as_committed) (λ h. commit_step h d)

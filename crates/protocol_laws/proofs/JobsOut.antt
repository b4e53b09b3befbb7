-- Who has a job is busy with it: each event keeps that so.
use Rattle.std.proofs.Common.{◌≡◌, ℕ, zero, suc, ◌+◌, ◌<◌, Bool, true, false, List, [], ◌∷◌, ◌++◌, ◌⊎◌, inl, inr, Some, refl, sym, ap, ◌∙◌, subst, length, map, arith}
use Rattle.std.specs.Prelude.{◌==◌, ◌&&◌, ◌||◌, if◌then◌else◌, not}
use Rattle.std.proofs.lemmas.Bool.{eqb-true, true≢false}
use Rattle.std.proofs.lemmas.Option.{same_Some}
use Rattle.std.proofs.lemmas.List.{length-append}
use Rattle.event_log.specs.Entries.{Entry}
use Rattle.event_log.specs.Events.{claims, has_job_out, is_committed, is_out_from}
use Rattle.holding_steps.specs.of_protocol.Numbered.{item_at, changed_at}
use Rattle.holding_steps.specs.of_step_laws.Counting.{item_of}
use Rattle.holding_steps.proofs.of_step_laws.Places.{placed}
use Rattle.holding_steps.proofs.of_step_laws.Lists.{changed_cases, changed-length, item_within, pushed_cases, joined_cases, counted_repeated_at}
use Rattle.holding_steps.specs.of_protocol.Sets.{repeated}
use Rattle.holding_steps.specs.of_protocol.Jobs.{JobRecord}
use Rattle.holding_steps.specs.of_protocol.Tables.{Out, Ready, Execution, Worker, new_worker}
use Rattle.holding_steps.specs.of_protocol.Cluster.{ClusterState, worker_at}
use Rattle.holding_steps.specs.of_protocol.Events.{as_committed, dead, dies_with}
use Rattle.holding_steps.proofs.Happening.{item_first, item_later}
use Rattle.holding_steps.proofs.NodeNotices.{mapped_cases}
use Rattle.protocol_laws.specs.Sound.{IsOutAs, JobsAreOut}

-- ---- the workers of a whole afterwards

-- a worker was there with that attempt
abbrev Was : ClusterState → ℕ → Worker → Type 0
Was c v y = (x : Worker) × (worker_at c v ≡ Some x) × (x.run ≡ y.run)

-- each was there with the same attempt, or is new
abbrev CameFrom : ClusterState → List Worker → Type 0
CameFrom c workers = (v : ℕ) (y : Worker) → item_at workers v ≡ Some y → Was c v y ⊎ (length c.workers < v)

-- of a worker with the same attempt
out_as : (j : ℕ) (x y : Worker) → x.run ≡ y.run → IsOutAs j x → IsOutAs j y
out_as j x y same p = (p.0, sym same ∙ p.1, p.2)

pub jobs_kept : (c d : ClusterState) → d.jobs ≡ c.jobs → (i : ℕ) → length d.workers ≡ length c.workers + i → CameFrom c d.workers → JobsAreOut c → JobsAreOut d
jobs_kept c d same more long from o = record {
  given = λ j g at. let h = o.given j g (was j g at) in omega (arith, h, long);
  named = λ j g at. o.named j g (was j g at);
  out = λ j g x at fresh there. elim (from g.worker x there) [
    | inl k ↦ out_as j k.0 x k.2 (o.out j g k.0 (was j g at) fresh k.1)
    | inr k ↦ let h = o.given j g (was j g at) in absurd (omega (arith, h, k))
  ];
}
  where
    was : (j : ℕ) (g : JobRecord) → item_at d.jobs j ≡ Some g → item_at c.jobs j ≡ Some g
    was j g at = ap (λ js. item_at js j) (sym same) ∙ at

long_repeated : (n : ℕ) (z : Worker) → length (repeated n z) ≡ n
long_repeated zero z = refl
long_repeated (suc n) z = ap (λ i. suc i) (long_repeated n z)

-- with workers that were opened behind those that are there
pub from_opened : (c : ClusterState) (front : List Worker) (n at : ℕ) → length front ≡ length c.workers → CameFrom c front → CameFrom c (front ++ repeated n (new_worker at))
from_opened c front n at long from v y h = elim (joined_cases front (repeated n (new_worker at)) v y h) [
  | inl k ↦ from v y k
  | inr k ↦ inr (let i = (counted_repeated_at n (new_worker at) (1 + length front) v y k).1 in omega (arith, i, long))
]

pub long_opened : (c : ClusterState) (front : List Worker) (n at : ℕ) → length front ≡ length c.workers → length (front ++ repeated n (new_worker at)) ≡ length c.workers + n
long_opened c front n at long = let a : length (front ++ repeated n (new_worker at)) ≡ length front + length (repeated n (new_worker at)) = length-append front (repeated n (new_worker at)) in let b : length (repeated n (new_worker at)) ≡ n = long_repeated n (new_worker at) in omega (arith, a, b, long)

pub from_same : (c : ClusterState) → CameFrom c c.workers
from_same c v y h = inl (y, h, refl)

pub from_killed : (c : ClusterState) (w : ℕ) → CameFrom c (changed_at c.workers w dead)
from_killed c w v y h = elim (changed_cases c.workers w dead v y h) [
  | inl k ↦ inl (k.1.0, k.1.1, ap (λ (z : Worker). z.run) k.1.2)
  | inr k ↦ inl (y, k.1, refl)
]

pub from_dead_node : (c : ClusterState) (n : ℕ) → CameFrom c (map (dies_with n) c.workers)
from_dead_node c n v y h = let r = mapped_cases (dies_with n) c.workers v y h in by_test r.0 (r.0.node == n) r.1 r.2
  where
    by_test : (x : Worker) (t : Bool) → worker_at c v ≡ Some x → (if t then dead x else x) ≡ y → Was c v y ⊎ (length c.workers < v)
    by_test x true at e = inl (x, at, ap (λ (z : Worker). z.run) e)
    by_test x false at e = inl (x, at, ap (λ (z : Worker). z.run) e)

-- ---- a worker's own event

-- what of the jobs afterwards is the worker's own, if it isn't committed, is out on it; all others were so before
pub record OwnJobs (c : ClusterState) (w : ℕ) (jobs : List JobRecord) (after : Worker) : Type 0 where
  pub given : (j : ℕ) (g : JobRecord) → item_at jobs j ≡ Some g → g.worker < length c.workers + 1
  pub named : (j : ℕ) (g : JobRecord) → item_at jobs j ≡ Some g → 0 < g.worker
  pub own : (j : ℕ) (g : JobRecord) → item_at jobs j ≡ Some g → g.is_committed ≡ false → g.worker ≡ w → IsOutAs j after
  pub others : (j : ℕ) (g : JobRecord) → item_at jobs j ≡ Some g → g.is_committed ≡ false → (g.worker ≡ w → ⊥) → item_at c.jobs j ≡ Some g

pub jobs_after : (c d : ClusterState) (w : ℕ) (after : Worker) (opened at : ℕ) → d.workers ≡ changed_at c.workers w (λ _. after) ++ repeated opened (new_worker at) → OwnJobs c w d.jobs after → JobsAreOut c → JobsAreOut d
jobs_after c d w after opened at is own o = record {
  given = λ j g i. let h = own.given j g i in let l = long in omega (arith, h, l);
  named = own.named;
  out = λ j g x i fresh there. elim (joined_cases front (repeated opened (new_worker at)) g.worker x (ap (λ xs. item_at xs g.worker) (sym is) ∙ there)) [
    | inl k ↦ elim (changed_cases c.workers w (λ _. after) g.worker x k) [
      | inl m ↦ subst (IsOutAs j) m.1.2 (own.own j g i fresh m.0)
      | inr m ↦ o.out j g x (own.others j g i fresh m.0) fresh m.1
    ]
    | inr k ↦ let r = (counted_repeated_at opened (new_worker at) (1 + length front) g.worker x k).1 in let h = own.given j g i in let l : length front ≡ length c.workers = changed-length c.workers w (λ _. after) in absurd (omega (arith, r, h, l))
  ];
}
  where
    front : List Worker
    front = changed_at c.workers w (λ _. after)

    long : length d.workers ≡ length c.workers + opened
    long = ap length is ∙ long_opened c front opened at (changed-length c.workers w (λ _. after))

module _ (c : ClusterState) (o : JobsAreOut c) (w : ℕ) (x : Worker) (at : worker_at c w ≡ Some x) where
  there : (g : JobRecord) → g.worker ≡ w → worker_at c g.worker ≡ Some x
  there g e = ap (worker_at c) e ∙ at

  -- where the jobs stay as they were, and the worker stays busy
  pub own_stay : (after : Worker) → ((j : ℕ) → IsOutAs j x → IsOutAs j after) → OwnJobs c w c.jobs after
  own_stay after keeps = record {
    given = o.given;
    named = o.named;
    own = λ j g i fresh e. keeps j (o.out j g x i fresh (there g e));
    others = λ j g i fresh e. i;
  }

  -- a worker that is ready has no job
  ready_alone : (run : Execution) → x.run ≡ Some run → run.phase ≡ Ready → (j : ℕ) → IsOutAs j x → ⊥
  ready_alone run is ready j p = apart (sym ready ∙ ap (λ (r : Execution). r.phase) (same_Some run p.0 (sym is ∙ p.1)) ∙ p.2)
    where
      apart : Ready ≡ Out j → ⊥
      apart e = cc

  -- a claim
  pub own_given : (run : Execution) → x.run ≡ Some run → run.phase ≡ Ready → w < length c.workers + 1 → (after : Worker) → IsOutAs (length c.jobs + 1) after → OwnJobs c w (c.jobs ++ record { worker = w; is_committed = false } ∷ []) after
  own_given run is ready within after out = record {
    given = λ j g i. elim (pushed_cases c.jobs (record { worker = w; is_committed = false }) j g i) [
      | inl k ↦ o.given j g k
      | inr k ↦ subst (λ (y : JobRecord). y.worker < length c.workers + 1) k.1 within
    ];
    named = λ j g i. elim (pushed_cases c.jobs (record { worker = w; is_committed = false }) j g i) [
      | inl k ↦ o.named j g k
      | inr k ↦ subst (λ (y : JobRecord). 0 < y.worker) k.1 (let r = (item_within c.workers w x at).1 in omega (arith, r))
    ];
    own = λ j g i fresh e. elim (pushed_cases c.jobs (record { worker = w; is_committed = false }) j g i) [
      | inl k ↦ absurd (ready_alone run is ready j (o.out j g x k fresh (there g e)))
      | inr k ↦ let n : length c.jobs + 1 ≡ j = (let m = k.0 in omega (arith, m)) in subst (λ i. IsOutAs i after) n out
    ];
    others = λ j g i fresh e. elim (pushed_cases c.jobs (record { worker = w; is_committed = false }) j g i) [
      | inl k ↦ k
      | inr k ↦ absurd (e (ap (λ (y : JobRecord). y.worker) (sym k.1)))
    ];
  }

  -- a commit
  pub own_committed : (j : ℕ) (run : Execution) → x.run ≡ Some run → run.phase ≡ Out j → (after : Worker) → OwnJobs c w (changed_at c.jobs j as_committed) after
  own_committed j run is out after = record {
    given = λ i g k. elim (changed_cases c.jobs j as_committed i g k) [
      | inl m ↦ subst (λ (y : JobRecord). y.worker < length c.workers + 1) m.1.2 (o.given i m.1.0 m.1.1)
      | inr m ↦ o.given i g m.1
    ];
    named = λ i g k. elim (changed_cases c.jobs j as_committed i g k) [
      | inl m ↦ subst (λ (y : JobRecord). 0 < y.worker) m.1.2 (o.named i m.1.0 m.1.1)
      | inr m ↦ o.named i g m.1
    ];
    own = λ i g k fresh e. elim (changed_cases c.jobs j as_committed i g k) [
      | inl m ↦ absurd (true≢false (ap (λ (y : JobRecord). y.is_committed) m.1.2 ∙ fresh))
      | inr m ↦ absurd (m.0 (same i (o.out i g x m.1 fresh (there g e))))
    ];
    others = λ i g k fresh e. elim (changed_cases c.jobs j as_committed i g k) [
      | inl m ↦ absurd (true≢false (ap (λ (y : JobRecord). y.is_committed) m.1.2 ∙ fresh))
      | inr m ↦ m.1
    ];
  }
    where
      number : (i : ℕ) → Out i ≡ Out j → i ≡ j
      number i e = cc

      same : (i : ℕ) → IsOutAs i x → i ≡ j
      same i p = number i (sym p.2 ∙ ap (λ (r : Execution). r.phase) (same_Some p.0 run (sym p.1 ∙ is)) ∙ out)

  -- ---- by the log

  none_out : (log : List Entry) (gs : List JobRecord) (k : ℕ) → ((i : ℕ) (g : JobRecord) → item_of k gs i ≡ Some g → g.worker ≡ w → is_committed i log ≡ true) → is_out_from log w k (map (λ (g : JobRecord). g.worker) gs) ≡ false
  none_out log [] k h = refl
  none_out log (g ∷ gs) k h = by_test (g.worker == w) refl (none_out log gs (k + 1) (λ i y e. h i y (item_later g gs k i y e)))
    where
      by_test : (t : Bool) → (g.worker == w) ≡ t → is_out_from log w (k + 1) (map (λ (y : JobRecord). y.worker) gs) ≡ false → ((t && not (is_committed k log)) || is_out_from log w (k + 1) (map (λ (y : JobRecord). y.worker) gs)) ≡ false
      by_test true e r = ap (λ b. not b || is_out_from log w (k + 1) (map (λ (y : JobRecord). y.worker) gs)) (h k g (item_first g gs k) (eqb-true g.worker w e)) ∙ r
      by_test false e r = r

  -- no job of a ready worker is out
  pub ready_has_none : (log : List Entry) → claims log ≡ map (λ (g : JobRecord). g.worker) c.jobs → ((j : ℕ) (g : JobRecord) → item_at c.jobs j ≡ Some g → is_committed j log ≡ g.is_committed) → (run : Execution) → x.run ≡ Some run → run.phase ≡ Ready → has_job_out w log ≡ false
  unfolding has_job_out
  ready_has_none log given commits run is ready = ap (is_out_from log w 1) given ∙ none_out log c.jobs 1 done
    where
      by_commit : (i : ℕ) (g : JobRecord) (b : Bool) → g.is_committed ≡ b → item_at c.jobs i ≡ Some g → g.worker ≡ w → g.is_committed ≡ true
      by_commit i g true e k m = e
      by_commit i g false e k m = absurd (ready_alone run is ready i (o.out i g x k e (there g m)))

      done : (i : ℕ) (g : JobRecord) → item_of 1 c.jobs i ≡ Some g → g.worker ≡ w → is_committed i log ≡ true
      done i g k m = commits i g (placed c.jobs i k) ∙ by_commit i g g.is_committed refl (placed c.jobs i k) m

-- Whatever comes but a commit of it, a job stands out.
use Rattle.std.proofs.Common.{◌≡◌, ℕ, ◌+◌, ◌≢◌, true, false, List, [], ◌∷◌, ◌++◌, length, Option, Some, None, refl, sym, ap, ◌∙◌, subst, inl, inr}
use Rattle.std.specs.Prelude.{◌&&◌, ◌==◌, if◌then◌else◌, not}
use Rattle.std.proofs.lemmas.Bool.{and_parts}
use Rattle.meaning.proofs.BirthLaws.{at_test}
use Rattle.event_log.specs.Entries.{Claim, Commit, Deliver, Entry, Event, Evict, Join, Kill, KillNode, Lose, Notice, NoticeNode, Tick}
use Rattle.event_log.specs.Entries.{Refusal, NoWorker, NotReady, NoJob, Stale, Limit}
use Rattle.event_log.specs.Rules.{Setting}
use Rattle.protocol.specs.Answers.{Answer, Refuses, Step, Takes, answer, decided, given_out, job_by, job_of, limited, takes, whole_after}
use Rattle.protocol.specs.Answers as answers
use Rattle.protocol.specs.Commits.{claim_step, commit_step}
use Rattle.protocol.specs.Deliveries.{reached}
use Rattle.protocol.specs.Events.{as_committed, committed_by, dead, delivered_by, delivered_to, dies_with, happens, is_live_node, is_live_worker, objects_made}
use Rattle.protocol.specs.Events.{killed_by, with_committed, with_delivered}
use Rattle.protocol.specs.Jobs.{JobRecord, CommitInput, Job, Nothing, OfAnother, OfJob}
use Rattle.protocol.specs.Messages.{Envelope, Endpoint, TheNode, TheWorker}
use Rattle.protocol.specs.Nodes.{Node, NodeContext}
use Rattle.protocol.specs.Notices.{notice_node_step, notice_step}
use Rattle.protocol.specs.Numbered.{changed_at, item_at}
use Rattle.protocol.specs.Refusals.{commit_refusal, has_slot, is_out_by, is_ready_on, is_ready_run, is_within_limits, no_worker, refusal, unless}
use Rattle.protocol.specs.Releases.{release_step}
use Rattle.protocol.specs.Sets.{repeated}
use Rattle.protocol.specs.Slots.{forgets, node_reached}
use Rattle.protocol.specs.Steps.{WorkerContext}
use Rattle.protocol.specs.Tables.{Out, Ready, Execution, Worker, new_worker}
use Rattle.protocol.specs.Ticks.{tick_step}
use Rattle.protocol.specs.Cluster.{Transition, ClusterState, after_worker, here, moved, node_at, node_does, node_does_by, there, worker_at, worker_does}
use Rattle.protocol.specs.Cluster.{worker_does_at, worker_does_by}
use Rattle.protocol_core.specs.Steps.{IsOut}
use Rattle.protocol_laws.specs.Sound.{IsSound}
use Rattle.protocol_laws.proofs.Tests.{live_worker, or_none, out_run, ready_run, unless_none}
use Rattle.holding_steps.proofs.Needing.{changed_same}
use Rattle.protocol_core.proofs.of_lease_discipline.Heres.{by_number, changed_elsewhere}
use Rattle.job_laws.specs.Standing.{ClaimsGiveJobsOut, JobsStand, OneIsOut}
use Rattle.job_laws.proofs.Here.{StandsOut, StopsFirst, claim_out, out_at_message, out_at_node_notice, out_at_notice, out_at_release, out_at_tick}
use Rattle.job_laws.proofs.Places.{item_before, item_last, item_mapped}

-- ---- one job of a number

some_of : {X : Type 0} (a b : X) → Some a ≡ Some b → a ≡ b
some_of a b e = cc

pub one_is_out : OneIsOut
one_is_out c j job other (run, out, is) (next, there, was) =
    let given : out.given ≡ there.given = some_of out.given there.given (sym out.was_given ∙ there.was_given) in
    let worker : out.worker ≡ there.worker =
    some_of out.worker there.worker (sym out.of_worker ∙ ap (λ (g : JobRecord). worker_at c g.worker) given ∙ there.of_worker) in
    let same : run ≡ next = some_of run next (sym out.runs ∙ ap (λ (x : Worker). x.run) worker ∙ there.runs) in
    is ∙ ap (λ (r : Execution). job_of j r) same ∙ sym was

-- ---- by the lists

-- the job stands out, by the jobs given out and the workers
record Stands (jobs : List JobRecord) (workers : List Worker) (j : ℕ) (job : Job) : Type 0 where
  pub given : JobRecord
  pub was_given : item_at jobs j ≡ Some given
  pub worker : Worker
  pub of_worker : item_at workers given.worker ≡ Some worker
  pub out : StandsOut j job worker

abbrev StandsIn : ClusterState → ℕ → Job → Type 0
StandsIn c j job = Stands c.jobs c.workers j job

stands_of : (c : ClusterState) (j : ℕ) (job : Job) → IsOut c j job → StandsIn c j job
stands_of c j job (run, out, is) = record {
  given = out.given;
  was_given = out.was_given;
  worker = out.worker;
  of_worker = out.of_worker;
  out = record { run = run; there = out.runs; out = out.is_out; same = is };
}

out_of : (c : ClusterState) (j : ℕ) (job : Job) → StandsIn c j job → IsOut c j job
out_of c j job s = (
  s.out.run,
  record {
    given = s.given;
    worker = s.worker;
    was_given = s.was_given;
    of_worker = s.of_worker;
    runs = s.out.there;
    is_out = s.out.out;
  },
  s.out.same,
)

ready_apart : (j : ℕ) → Ready ≡ Out j → ⊥
ready_apart j e = cc

out_number : (i j : ℕ) → Out i ≡ Out j → i ≡ j
out_number i j e = cc

module _ (j : ℕ) (job : Job) where
  -- of a worker with the same attempt
  same_run : (x y : Worker) → y.run ≡ x.run → StandsOut j job x → StandsOut j job y
  same_run x y e p = record { run = p.run; there = e ∙ p.there; out = p.out; same = p.same }

  -- where workers came behind
  with_more : (jobs : List JobRecord) (workers more : List Worker) → Stands jobs workers j job → Stands jobs (workers ++ more) j job
  with_more jobs workers more s = record {
    given = s.given;
    was_given = s.was_given;
    worker = s.worker;
    of_worker = item_before workers more s.given.worker s.worker s.of_worker;
    out = s.out;
  }

  -- where the worker of that number became another
  with_changed : (jobs : List JobRecord) (workers : List Worker) (w : ℕ) (f : Worker → Worker) (s : Stands jobs workers j job) →
      (s.given.worker ≡ w → StandsOut j job (f s.worker)) → Stands jobs (changed_at workers w f) j job
  with_changed jobs workers w f s own = elim (by_number s.given.worker w) [
    | inl same ↦ record {
      given = s.given;
      was_given = s.was_given;
      worker = f s.worker;
      of_worker = subst (λ n. item_at (changed_at workers w f) n ≡ Some (f s.worker)) (sym same)
          (changed_same workers w f s.worker (ap (item_at workers) (sym same) ∙ s.of_worker));
      out = own same;
    }
    | inr apart ↦ record {
      given = s.given;
      was_given = s.was_given;
      worker = s.worker;
      of_worker = changed_elsewhere workers w s.given.worker f s.worker apart s.of_worker;
      out = s.out;
    }
  ]

  -- ---- an event of a node or a worker

  node_stands : (c : ClusterState) (n : ℕ) (f : NodeContext → NodeContext) → StandsIn c j job → (o : Option Node) → StandsIn (node_does_by c n f o).whole j job
  node_stands c n f s None = s
  node_stands c n f s (Some node) = with_more c.jobs c.workers (repeated (f (there c n node)).opened (new_worker n)) s

  worker_stands : (c : ClusterState) (w : ℕ) (step : WorkerContext → WorkerContext) (s : StandsIn c j job) →
      ((x : Worker) (node : Node) → s.given.worker ≡ w → worker_at c w ≡ Some x → StandsOut j job x → StandsOut j job (step (here c w x node)).worker) →
      StandsIn (worker_does c w step).whole j job
  worker_stands c w step s keeps = by_worker (worker_at c w) refl
    where
      by_node : (x : Worker) → worker_at c w ≡ Some x → (o : Option Node) → StandsIn (worker_does_at c w x step o).whole j job
      by_node x at None = s
      by_node x at (Some node) =
          let h : WorkerContext = release_step (step (here c w x node)) in
          with_more c.jobs (changed_at c.workers w (λ _. h.worker)) (repeated h.there.opened (new_worker x.node))
          (with_changed c.jobs c.workers w (λ _. h.worker) s (λ same.
          let it : s.worker ≡ x = some_of s.worker x (sym s.of_worker ∙ ap (worker_at c) same ∙ at) in
          out_at_release j job (step (here c w x node)) (keeps x node same at (subst (StandsOut j job) it s.out))))

      by_worker : (o : Option Worker) → worker_at c w ≡ o → StandsIn (worker_does_by c w step o).whole j job
      by_worker None e = s
      by_worker (Some x) e = by_node x e (node_at c x.node)

  -- ---- one event

  module _ (s : Setting) (log : List Entry) (c : ClusterState) (sound : IsSound s log c) (out : StandsIn c j job) where
    claim_stands : (w : ℕ) (handed : CommitInput) → refusal c (Claim w) handed ≡ None → StandsIn (happens c (Claim w) handed).whole j job
    claim_stands w handed r =
        let parts = or_none (no_worker c w) (unless (is_ready_on c w (worker_at c w)) NotReady) r in
        let l = live_worker c w (unless_none (is_live_worker (worker_at c w)) NoWorker parts.0) in
        let ready : is_ready_on c w (Some l.worker) ≡ true = ap (is_ready_on c w) (sym l.at) ∙ unless_none (is_ready_on c w (worker_at c w)) NotReady parts.1 in
        let two = and_parts (l.worker.is_live && is_ready_run l.worker.run) (has_slot w (node_at c l.worker.node)) ready in
        let run = ready_run l.worker.run (and_parts l.worker.is_live (is_ready_run l.worker.run) two.0).1 in
        let d : ClusterState = record c { jobs = c.jobs ++ record { worker = w; is_committed = false } ∷ [] } in
        let more : StandsIn d j job = record {
          given = out.given;
          was_given = item_before c.jobs (record { worker = w; is_committed = false } ∷ []) j out.given out.was_given;
          worker = out.worker;
          of_worker = out.of_worker;
          out = out.out;
        } in
        worker_stands d w (λ h. claim_step h (length c.jobs + 1)) more (λ x node same at p.
        let it : x ≡ l.worker = some_of x l.worker (sym at ∙ l.at) in
        let one : p.run ≡ run.0 = some_of p.run run.0 (sym p.there ∙ ap (λ (y : Worker). y.run) it ∙ run.1) in
        absurd (ready_apart j (sym run.2 ∙ ap (λ (q : Execution). q.phase) (sym one) ∙ p.out)))

    commit_stands : (i : ℕ) (handed : CommitInput) → refusal c (Commit i) handed ≡ None → (i ≡ j → ⊥) → StandsIn (happens c (Commit i) handed).whole j job
    commit_stands i handed r apart = go handed (item_at c.jobs i) refl r
      where
        go : (handed : CommitInput) (o : Option JobRecord) → item_at c.jobs i ≡ o → commit_refusal c i handed o ≡ None → StandsIn (committed_by c i handed o).whole j job
        go Nothing None e h = out
        go Nothing (Some g) e h = out
        go OfAnother None e h = out
        go OfAnother (Some g) e h = out
        go (OfJob o) None e h = out
        go (OfJob o) (Some g) e h =
            let parts = or_none (unless (not g.is_committed && true && is_out_by (worker_at c g.worker) i) NoJob)
            (unless (is_live_worker (worker_at c g.worker)) Stale) h in
            let a = and_parts (not g.is_committed && true) (is_out_by (worker_at c g.worker) i)
            (unless_none (not g.is_committed && true && is_out_by (worker_at c g.worker) i) NoJob parts.0) in
            let d : ClusterState = with_committed c i (objects_made o.births) in
            let left : StandsIn d j job = record {
              given = out.given;
              was_given = changed_elsewhere c.jobs i j as_committed out.given (λ e. apart (sym e)) out.was_given;
              worker = out.worker;
              of_worker = out.of_worker;
              out = out.out;
            } in
            worker_stands d g.worker (λ k. commit_step k o) left (λ x node same at p.
            let run = out_run x.run i (ap (λ (y : Option Worker). is_out_by y i) (sym at) ∙ a.1) in
            let one : p.run ≡ run.0 = some_of p.run run.0 (sym p.there ∙ run.1) in
            absurd (apart (out_number i j (sym run.2 ∙ ap (λ (q : Execution). q.phase) (sym one) ∙ p.out))))

    deliver_to : (k : ℕ) (l : Envelope) (r : Endpoint) → StandsIn (delivered_to (with_delivered c k) l r).whole j job
    deliver_to k l (TheWorker w) =
        at_test (λ i. is_live_worker (worker_at c w) ≡ i →
        StandsIn (if i then worker_does (with_delivered c k) w (λ g. reached g l.sender l.message) else moved (with_delivered c k)).whole j job)
        (is_live_worker (worker_at c w))
        (λ _ live. let y = live_worker c w live in
        worker_stands (with_delivered c k) w (λ g. reached g l.sender l.message) out (λ x node same at p.
        let it : y.worker ≡ x = some_of y.worker x (sym y.at ∙ at) in
        let stops : StopsFirst x = subst StopsFirst it (λ run is. ((sound.between.knows.workers w y.worker y.at y.lives).run run is).over) in
        out_at_message j job (here (with_delivered c k) w x node) l.sender l.message stops p))
        (λ _ gone. out) refl
    deliver_to k l (TheNode n) =
        at_test (λ i.
        StandsIn (if i then node_does (with_delivered c k) n (λ g. node_reached g l.sender l.message) else moved (with_delivered c k)).whole j job)
        (is_live_node (node_at c n)) (λ _. node_stands (with_delivered c k) n (λ g. node_reached g l.sender l.message) out (node_at c n)) (λ _. out)

    deliver_stands : (k : ℕ) (o : Option Envelope) → StandsIn (delivered_by c k o).whole j job
    deliver_stands k None = out
    deliver_stands k (Some l) = deliver_to k l l.receiver

    kill_stands : (w : ℕ) (o : Option Worker) → StandsIn (killed_by c w o).whole j job
    kill_stands w None = out
    kill_stands w (Some x) =
        node_stands (record c { workers = changed_at c.workers w dead }) x.node (λ h. forgets h w)
        (with_changed c.jobs c.workers w dead out (λ same. same_run out.worker (dead out.worker) refl out.out)) (node_at c x.node)

    dies : (n : ℕ) (x : Worker) → (dies_with n x).run ≡ x.run
    dies n x = at_test (λ b. (if b then dead x else x).run ≡ x.run) (x.node == n) (λ _. refl) (λ _. refl)

    commit_apart : (i : ℕ) → Commit i ≢ Commit j → i ≡ j → ⊥
    commit_apart i apart e = apart (ap Commit e)

    happens_stands : (e : Event) (handed : CommitInput) → refusal c e handed ≡ None → e ≢ Commit j → StandsIn (happens c e handed).whole j job
    happens_stands (Claim w) handed r apart = claim_stands w handed r
    happens_stands (Commit i) handed r apart = commit_stands i handed r (commit_apart i apart)
    happens_stands (Deliver k) handed r apart = deliver_stands k (item_at c.network k)
    happens_stands (Tick w) handed r apart = worker_stands c w tick_step out (λ x node same at p. out_at_tick j job (here c w x node) p)
    happens_stands (Notice w v) handed r apart =
        worker_stands c w (λ h. notice_step h v) out (λ x node same at p. out_at_notice j job (here c w x node) v p)
    happens_stands (NoticeNode w n) handed r apart =
        worker_stands c w (λ h. notice_node_step h n) out (λ x node same at p. out_at_node_notice j job (here c w x node) n p)
    happens_stands (Evict n o) handed r apart = out
    happens_stands (Lose n o) handed r apart = out
    happens_stands (Kill w) handed r apart = kill_stands w (worker_at c w)
    happens_stands (KillNode n) handed r apart = record {
      given = out.given;
      was_given = out.was_given;
      worker = dies_with n out.worker;
      of_worker = item_mapped (dies_with n) c.workers out.given.worker out.worker out.of_worker;
      out = same_run out.worker (dies_with n out.worker) (dies n out.worker) out.out;
    }
    happens_stands Join handed r apart = out

    answer_stands : (e : Event) (handed : CommitInput) → e ≢ Commit j → StandsIn (whole_after c (answer c e handed)) j job
    answer_stands e handed apart = go (refusal c e handed) refl
      where
        go : (o : Option Refusal) → refusal c e handed ≡ o → StandsIn (whole_after c (decided c e handed o)) j job
        go (Some code) r = out
        go None r = at_test (λ i. StandsIn (whole_after c (if i then takes (happens c e handed) (given_out c e) else Refuses Limit)) j job)
            (is_within_limits (happens c e handed).whole) (λ _. happens_stands e handed r apart) (λ _. out)

pub jobs_stand : JobsStand
jobs_stand s log c sound e handed j job apart out =
    out_of (whole_after c (answer c e handed)) j job (answer_stands j job s log c sound (stands_of c j job out) e handed apart)

-- ---- a claim

-- a step by which the worker's attempt comes to be out
worker_gives : (c : ClusterState) (j : ℕ) (job : Job) (g : JobRecord) (step : WorkerContext → WorkerContext) (x : Worker) (node : Node) → item_at c.jobs j ≡ Some g →
    worker_at c g.worker ≡ Some x → node_at c x.node ≡ Some node → StandsOut j job (step (here c g.worker x node)).worker →
    StandsIn (worker_does c g.worker step).whole j job
worker_gives c j job g step x node given at home out =
    let h : WorkerContext = release_step (step (here c g.worker x node)) in
    let behind : StandsIn (after_worker c g.worker x.node h).whole j job = with_more j job c.jobs (changed_at c.workers g.worker (λ _. h.worker))
    (repeated h.there.opened (new_worker x.node)) (record {
      given = g;
      was_given = given;
      worker = h.worker;
      of_worker = changed_same c.workers g.worker (λ _. h.worker) x at;
      out = out_at_release j job (step (here c g.worker x node)) out;
    }) in
    subst (λ (m : Transition). StandsIn m.whole j job) (sym (ap (worker_does_by c g.worker step) at ∙ ap (worker_does_at c g.worker x step) home)) behind

has_home : (w : ℕ) (o : Option Node) → has_slot w o ≡ true → (node : Node) × (o ≡ Some node)
has_home w None e = absurd (cc)
has_home w (Some node) e = (node, refl)

taken_out : (c : ClusterState) (w : ℕ) (handed : CommitInput) → refusal c (Claim w) handed ≡ None → (job : Job) → given_out c (Claim w) ≡ Some job →
    StandsIn (happens c (Claim w) handed).whole (length c.jobs + 1) job
taken_out c w handed r job gives =
    let parts = or_none (no_worker c w) (unless (is_ready_on c w (worker_at c w)) NotReady) r in
    let l = live_worker c w (unless_none (is_live_worker (worker_at c w)) NoWorker parts.0) in
    let ready : is_ready_on c w (Some l.worker) ≡ true = ap (is_ready_on c w) (sym l.at) ∙ unless_none (is_ready_on c w (worker_at c w)) NotReady parts.1 in
    let two = and_parts (l.worker.is_live && is_ready_run l.worker.run) (has_slot w (node_at c l.worker.node)) ready in
    let run = ready_run l.worker.run (and_parts l.worker.is_live (is_ready_run l.worker.run) two.0).1 in
    let home = has_home w (node_at c l.worker.node) two.1 in
    let n : ℕ = length c.jobs + 1 in
    let g : JobRecord = record { worker = w; is_committed = false } in
    let d : ClusterState = record c { jobs = c.jobs ++ g ∷ [] } in
    let same : job_of n run.0 ≡ job = some_of (job_of n run.0) job (sym (ap (answers.job_at n) l.at ∙ ap (job_by n) run.1) ∙ gives) in
    subst (StandsIn (happens c (Claim w) handed).whole n) same
    (worker_gives d n (job_of n run.0) g (λ h. claim_step h n) l.worker home.0 (item_last c.jobs g n refl) l.at home.1
    (claim_out (here d w l.worker home.0) n run.0 run.1))

takes_step : (a b : Step) → Takes a ≡ Takes b → a ≡ b
takes_step a b e = cc

refuses_apart : (code : Refusal) (b : Step) → Refuses code ≡ Takes b → ⊥
refuses_apart code b e = cc

pub claims_give_jobs_out : ClaimsGiveJobsOut
claims_give_jobs_out c w handed step job is gives = out_of step.whole (length c.jobs + 1) job (go (refusal c (Claim w) handed) refl is)
  where
    m : Transition
    m = happens c (Claim w) handed

    of_step : refusal c (Claim w) handed ≡ None → takes m (given_out c (Claim w)) ≡ Takes step → StandsIn step.whole (length c.jobs + 1) job
    of_step r e =
        let same = takes_step (record { whole = m.whole; entries = m.out.entries; envelopes = m.out.envelopes; given = given_out c (Claim w) }) step e in
        subst (λ (x : ClusterState). StandsIn x (length c.jobs + 1) job) (ap (λ (x : Step). x.whole) same)
        (taken_out c w handed r job (ap (λ (x : Step). x.given) same ∙ gives))

    go : (o : Option Refusal) → refusal c (Claim w) handed ≡ o → decided c (Claim w) handed o ≡ Takes step → StandsIn step.whole (length c.jobs + 1) job
    go (Some code) r e = absurd (refuses_apart code step e)
    go None r e = at_test (λ i. (if i then takes m (given_out c (Claim w)) else Refuses Limit) ≡ Takes step → StandsIn step.whole (length c.jobs + 1) job)
        (is_within_limits m.whole) (λ _. of_step r) (λ _ f. absurd (refuses_apart Limit step f)) e

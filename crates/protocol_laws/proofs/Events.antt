-- Each event keeps a run sound: first each entry up to the releases is allowed, so the past goes on with it; so what is then released isn't held;
-- so the releases are allowed too.
use Rattle.std.proofs.Common.{arith, ◌<◌, ◌≡◌, ℕ, ◌+◌, Bool, true, false, List, [], ◌∷◌, ◌++◌, length, Option, Some, None, refl, sym, ap, ◌∙◌, subst}
use Rattle.std.specs.Prelude.{◌&&◌, if◌then◌else◌, is_some, not, ◌==◌}
use Rattle.std.proofs.lemmas.Option.{same_Some}
use Rattle.std.proofs.lemmas.Bool.{and_parts, eq-eqb, eqb-true, not-true}
use Rattle.meaning.specs.Mains.{KeepsMainApart}
use Rattle.meaning.proofs.BirthLaws.{at_test}
use Rattle.event_log.specs.Entries.{Event, Claim, Commit, Deliver, Tick, Notice, NoticeNode, Evict, Lose, Kill, KillNode, Join, Entry, In, Refused}
use Rattle.event_log.specs.Entries.{Refusal, NoWorker, NotReady, NoJob, Stale, NoMessage, NotDead, NoNode, Limit}
use Rattle.event_log.specs.Events.{from_one, has_job_out, is_killed, node_is_killed, worker_of_job}
use Rattle.event_log.specs.Words.{births, next_serial}
use Rattle.event_log.specs.Causes.{IsRefusal}
use Rattle.event_log.specs.Rules.{Setting, ToWorker, worker_to}
use Rattle.holding_steps.specs.of_protocol.Numbered.{changed_at, item_at}
use Rattle.holding_steps.specs.of_protocol.Messages.{Envelope, Endpoint, TheWorker, TheNode, goes_to_by, receiver_of}
use Rattle.holding_steps.specs.of_protocol.Jobs.{JobRecord, CommitInput, Nothing, OfAnother, OfJob}
use Rattle.holding_steps.specs.of_protocol.Nodes.{Node}
use Rattle.holding_steps.specs.of_protocol.Slots.{forgets, node_reached}
use Rattle.holding_steps.specs.of_protocol.Stores.{evict_refusal, lose_refusal}
use Rattle.holding_steps.specs.of_protocol.Tables.{Out, Execution, Worker}
use Rattle.holding_steps.specs.of_protocol.Steps.{WorkerContext}
use Rattle.holding_steps.specs.of_protocol.Commits.{claim_by, claim_step, commit_step}
use Rattle.holding_steps.specs.of_protocol.Notices.{notice_step, notice_node_step}
use Rattle.holding_steps.specs.of_protocol.Ticks.{tick_step}
use Rattle.holding_steps.specs.of_protocol.Deliveries.{reached}
use Rattle.holding_steps.specs.of_protocol.Releases.{release_step}
use Rattle.holding_steps.specs.of_protocol.Cluster.{ClusterState, Transition, moved, node_at, worker_at, here, there, after_node, after_worker, worker_does, worker_does_by, worker_does_at, node_does, node_does_by}
use Rattle.holding_steps.specs.of_protocol.Events.{is_live_worker, is_live_node, with_committed, with_delivered, delivered_to, delivered_by, committed_by, dead, dies_with, killed, killed_by, happens, objects_made}
use Rattle.holding_steps.specs.of_protocol.Refusals.{no_worker, is_ready_run, has_slot, is_ready_on, commit_refusal, is_out_by, is_dead_worker, is_dead_node, refusal, is_within_limits, unless}
use Rattle.holding_steps.specs.of_protocol.Answers.{Answer, Refuses, answer, decided, takes, given_out, whole_after, logged}
use Rattle.holding_steps.specs.of_holding.Past.{Fact}
use Rattle.holding_steps.specs.Clauses.{During, Goes, HereTrue, MessageTrue}
use Rattle.holding_steps.specs.Landing.{Ext, Lands}
use Rattle.holding_steps.specs.Whole.{StillTrue, WholeTrue}
use Rattle.holding_steps.proofs.Events.{After}
use Rattle.holding_steps.proofs.Keeping.{steps_land}
use Rattle.holding_steps.proofs.Landed.{lands_so}
use Rattle.holding_steps.proofs.Doing.{nothing_done}
use Rattle.holding_steps.proofs.Living.{worker_event_walk}
use Rattle.protocol_legal.specs.Past.{past}
use Rattle.protocol_legal.specs.During.{Frame, SoundHere}
use Rattle.protocol_legal.specs.Frame.{Arrives, ComesTo, IsOwnEvent, JobsFollow}
use Rattle.protocol_legal.specs.Says.{SaysBetween}
use Rattle.protocol_legal.specs.Steps.{EventsOfOthers, EventsOfWorkers, frame_of}
use Rattle.protocol_legal.specs.Whole.{Between, committed_in, setting_of}
use Rattle.protocol_legal.proofs.FrameHolds.{said_behind, steps_stay_legal}
use Rattle.protocol_legal.proofs.FrameLists.{from_one_of}
use Rattle.protocol_legal.proofs.OnlyMainPrints.{only_main_prints}
use Rattle.holding_steps.proofs.NodeNotices.{mapped_length}
use Rattle.protocol_laws.specs.Sound.{IsOutAs, IsSound, JobsAreOut}
use Rattle.protocol_laws.proofs.JobsOut.{OwnJobs, from_dead_node, from_killed, from_opened, from_same, jobs_after, jobs_kept, long_opened, own_committed, own_given, own_stay, ready_has_none}
use Rattle.protocol_laws.proofs.Refusals.{limited_for_cause, refused_for_cause, store_node_lives}
use Rattle.protocol_laws.proofs.StaysOut.{out_at_message, out_at_node_notice, out_at_notice, out_at_release, out_at_tick}
use Rattle.protocol_laws.specs.Coming.{IsRight}
use Rattle.protocol_laws.proofs.Premises.{births_in, dead_on, refused_true, runs_begun, untouched, worker_killed_in}
use Rattle.protocol_laws.proofs.Tests.{WorkerThere, dead_node, dead_worker, live_node, live_worker, or_none, out_run, ready_run, unless_none}
use Rattle.holding_steps.proofs.of_step_laws.Lists.{item_within, changed-length}

-- after the event, which made this of the whole, the run is sound
abbrev pub Follows : Setting → List Entry → Event → ℕ → Transition → Type 0
Follows s log e seat m = IsSound s (log ++ In e seat ∷ m.out.entries) m.whole

both : (s : Setting) (log : List Entry) (e : Event) (seat : ℕ) (m : Transition) → Between s (log ++ In e seat ∷ m.out.entries) m.whole → StillTrue log e seat m → JobsAreOut m.whole → Follows s log e seat m
both s log e seat m b t o = record { between = b; past = t.later; held = t.kept; jobs = o }

-- whose workers and jobs are those of before
beside_jobs : (c d : ClusterState) → d.workers ≡ c.workers → d.jobs ≡ c.jobs → JobsAreOut c → JobsAreOut d
beside_jobs c d same jobs o = record {
  given = λ j g at. subst (λ (ws : List Worker). g.worker < length ws + 1) (sym same) (o.given j g (ap (λ js. item_at js j) (sym jobs) ∙ at));
  named = λ j g at. o.named j g (ap (λ js. item_at js j) (sym jobs) ∙ at);
  out = λ j g x at fresh there. o.out j g x (ap (λ js. item_at js j) (sym jobs) ∙ at) fresh (ap (λ ws. item_at ws g.worker) (sym same) ∙ there);
}

claim_out : (h : WorkerContext) (j : ℕ) (run : Execution) → h.worker.run ≡ Some run → IsOutAs j (claim_step h j).worker
claim_out h j run is = subst (λ r. IsOutAs j (claim_by h j r).worker) (sym is) (record run { phase = Out j }, refl, refl)

does_is : (c : ClusterState) (w : ℕ) (step : WorkerContext → WorkerContext) (x : Worker) (node : Node) → worker_at c w ≡ Some x → node_at c x.node ≡ Some node → worker_does c w step ≡ after_worker c w x.node (release_step (step (here c w x node)))
does_is c w step x node at home = ap (worker_does_by c w step) at ∙ ap (worker_does_at c w x step) home

module _ (s : Setting) (apart : KeepsMainApart s.script) (log : List Entry) (c : ClusterState) (sound : IsSound s log c) where
  abbrev S : Setting
  S = setting_of s c

  b : Between s log c
  b = sound.between

  abbrev facts : List Fact
  facts = sound.past

  t : WholeTrue log facts c
  t = sound.held

  on_workers : EventsOfWorkers s log c b
  on_workers = steps_stay_legal.workers s log c b

  on_others : EventsOfOthers s log c
  on_others = steps_stay_legal.others s log c b

  -- ---- an event of a worker

  module _ (e : Event) (seat w : ℕ) (x : Worker) (at : worker_at c w ≡ Some x) (live : x.is_live ≡ true) (own : IsOwnEvent S log e w) (jobs : List JobRecord) (made : ℕ) (delivered : List Bool) (follow : JobsFollow log e jobs) (step : WorkerContext → WorkerContext) where
    abbrev home : (node : Node) × (node_at c x.node ≡ Some node) × (node.is_live ≡ true)
    home = b.knows.housed w x at live

    abbrev f : Frame
    f = frame_of s log c b e seat w

    abbrev d : During
    d = record { log = log; event = e; seat = seat }

    abbrev h : WorkerContext
    h = here c w x home.0

    abbrev c1 : ClusterState
    c1 = record c { jobs = jobs; made = made; delivered = delivered }

    -- the worker's step is allowed up to the releases, and where that is so, the past goes on
    worker_event : (Arrives f h → ComesTo f (step h)) → Ext h (step h) → (HereTrue d facts h → Lands d S (step h).there.out.entries → Goes d facts w (step h)) → OwnJobs c w jobs (release_step (step h)).worker → Follows s log e seat (worker_does c1 w step)
    worker_event legal adds holds busy =
        let same : worker_does c1 w step ≡ after_worker c1 w x.node (release_step (step h)) = does_is c1 w step x home.0 at home.1 in
        let z : ComesTo f (step h) = legal (on_workers.enters e seat w x home.0 (record { at = at; lives = live; home = home.1; own = own })) in
        let lands : Lands d S (step h).there.out.entries = lands_so d S (step h).there.out.entries b.legal z.sound.there.may.each in
        let goes : Goes d facts w (step h) = holds (steps_land.taken_out log facts c e seat w x home.0 t at live home.1) lands in
        let end : ComesTo f (release_step (step h)) = steps_stay_legal.steps.releases f (step h) z (steps_land.unheld d S goes.later (step h) goes.kept lands) in
        let beside : WholeTrue log facts c1 = steps_land.beside log facts c delivered jobs made t in
        let a : After log e seat w (release_step (step h)) (worker_does_at c1 w x step (Some home.0)).whole = worker_event_walk log facts c1 e seat w x home.0 step beside at live home.1 adds (λ u. goes) in
        subst (Follows s log e seat) (sym same) (record {
          between = on_workers.leaves e seat w x home.0 (record { at = at; lives = live; home = home.1; own = own }) jobs made delivered follow (release_step (step h)) end;
          past = a.later;
          held = a.kept;
          jobs = jobs_after c (after_worker c1 w x.node (release_step (step h))).whole w (release_step (step h)).worker (release_step (step h)).there.opened x.node refl busy sound.jobs;
        })

  -- a worker whose step begins with what is true within an event
  at_once : {f : Frame} {h : WorkerContext} → Arrives f h → SoundHere f f.asked h → ComesTo f h
  at_once {f} {h} a k = record { asked = f.asked; sound = k; heeds = a.heeds }

  -- ---- claims and ticks

  -- who may claim has no job that is out
  idle_claim : (w : ℕ) (handed : CommitInput) → refusal c (Claim w) handed ≡ None → has_job_out w log ≡ false
  idle_claim w handed r =
      let parts = or_none (no_worker c w) (unless (is_ready_on c w (worker_at c w)) NotReady) r in
      let l = live_worker c w (unless_none (is_live_worker (worker_at c w)) NoWorker parts.0) in
      let ready : is_ready_on c w (Some l.worker) ≡ true = ap (is_ready_on c w) (sym l.at) ∙ unless_none (is_ready_on c w (worker_at c w)) NotReady parts.1 in
      let two = and_parts (l.worker.is_live && is_ready_run l.worker.run) (has_slot w (node_at c l.worker.node)) ready in
      let run = ready_run l.worker.run (and_parts l.worker.is_live (is_ready_run l.worker.run) two.0).1 in
      ready_has_none c sound.jobs w l.worker l.at log b.knows.claims (λ j g e. b.knows.commits j ∙ ap committed_in e) run.0 run.1 run.2

  within : (w : ℕ) (x : Worker) → worker_at c w ≡ Some x → w < length c.workers + 1
  within w x at = let i = (item_within c.workers w x at).0 in omega (arith, i)

  claim_event : (w seat : ℕ) (handed : CommitInput) → refusal c (Claim w) handed ≡ None → Follows s log (Claim w) seat (happens c (Claim w) handed)
  claim_event w seat handed r =
      let parts = or_none (no_worker c w) (unless (is_ready_on c w (worker_at c w)) NotReady) r in
      let l = live_worker c w (unless_none (is_live_worker (worker_at c w)) NoWorker parts.0) in
      let ready : is_ready_on c w (Some l.worker) ≡ true = ap (is_ready_on c w) (sym l.at) ∙ unless_none (is_ready_on c w (worker_at c w)) NotReady parts.1 in
      let two = and_parts (l.worker.is_live && is_ready_run l.worker.run) (has_slot w (node_at c l.worker.node)) ready in
      let run = ready_run l.worker.run (and_parts l.worker.is_live (is_ready_run l.worker.run) two.0).1 in
      let j = length c.jobs + 1 in
      worker_event (Claim w) seat w l.worker l.at l.lives (record { own = refl; spares = λ v n. refl; spares_nodes = λ n. refl; brings_none = refl })
      (c.jobs ++ record { worker = w; is_committed = false } ∷ []) c.made c.delivered (on_workers.job_given w) (λ g. claim_step g j)
      (λ a. steps_stay_legal.steps.claims _ _ j run.0 (λ v i. absurd (cc)) (at_once a (on_workers.sound_at_once _ _ _ _ _ a (a.lived, idle_claim w handed r) (λ u. refl))) run.1 run.2)
      (steps_land.claim_adds _ j)
      (λ u lands. steps_land.claim _ facts _ j u)
      (own_given c sound.jobs w l.worker l.at run.0 run.1 run.2 (within w l.worker l.at) _ (out_at_release j (claim_step (here c w l.worker (b.knows.housed w l.worker l.at l.lives).0) j) (claim_out (here c w l.worker (b.knows.housed w l.worker l.at l.lives).0) j run.0 run.1)))

  tick_event : (w seat : ℕ) (handed : CommitInput) → refusal c (Tick w) handed ≡ None → Follows s log (Tick w) seat (happens c (Tick w) handed)
  tick_event w seat handed r =
      let l = live_worker c w (unless_none (is_live_worker (worker_at c w)) NoWorker r) in
      worker_event (Tick w) seat w l.worker l.at l.lives (record { own = refl; spares = λ v n. refl; spares_nodes = λ n. refl; brings_none = refl })
      c.jobs c.made c.delivered (on_workers.jobs_stay (Tick w) refl refl) tick_step
      (λ a. steps_stay_legal.steps.ticks _ _ (λ v i. absurd (cc)) (at_once a (on_workers.sound_at_once _ _ _ _ _ a a.lived (λ u. refl))))
      (steps_land.tick_adds _)
      (λ u lands. steps_land.tick _ facts _ u (runs_begun s log c b facts t w l.worker (b.knows.housed w l.worker l.at l.lives).0 l.at l.lives))
      (own_stay c sound.jobs w l.worker l.at _ (λ i p. out_at_release i (tick_step (here c w l.worker (b.knows.housed w l.worker l.at l.lives).0)) (out_at_tick i (here c w l.worker (b.knows.housed w l.worker l.at l.lives).0) p)))

  -- ---- notices

  notice_event : (w v seat : ℕ) (handed : CommitInput) → refusal c (Notice w v) handed ≡ None → Follows s log (Notice w v) seat (happens c (Notice w v) handed)
  notice_event w v seat handed r =
      let parts = or_none (no_worker c w) (unless (is_dead_worker (worker_at c v)) NotDead) r in
      let l = live_worker c w (unless_none (is_live_worker (worker_at c w)) NoWorker parts.0) in
      let k = dead_worker c v (unless_none (is_dead_worker (worker_at c v)) NotDead parts.1) in
      let killed : is_killed v log ≡ true = on_workers.dead_worker v k.worker k.at k.lives in
      worker_event (Notice w v) seat w l.worker l.at l.lives (record { own = refl; spares = λ u n. refl; spares_nodes = λ n. refl; brings_none = refl })
      c.jobs c.made c.delivered (on_workers.jobs_stay (Notice w v) refl refl) (λ g. notice_step g v)
      (λ a. steps_stay_legal.steps.notices _ _ v refl a killed (on_workers.dead_worker_then (Notice w v) seat v killed))
      (steps_land.notice_adds _ v)
      (λ u lands. steps_land.notice _ S facts _ v u (t.dead v k.worker k.at k.lives) lands)
      (own_stay c sound.jobs w l.worker l.at _ (λ i p. out_at_release i (notice_step (here c w l.worker (b.knows.housed w l.worker l.at l.lives).0) v) (out_at_notice i (here c w l.worker (b.knows.housed w l.worker l.at l.lives).0) v p)))

  node_notice_event : (w n seat : ℕ) (handed : CommitInput) → refusal c (NoticeNode w n) handed ≡ None → Follows s log (NoticeNode w n) seat (happens c (NoticeNode w n) handed)
  node_notice_event w n seat handed r =
      let parts = or_none (no_worker c w) (unless (is_dead_node (node_at c n)) NotDead) r in
      let l = live_worker c w (unless_none (is_live_worker (worker_at c w)) NoWorker parts.0) in
      let k = dead_node c n (unless_none (is_dead_node (node_at c n)) NotDead parts.1) in
      let killed : node_is_killed n log ≡ true = on_workers.dead_node n k.node k.at k.lives in
      worker_event (NoticeNode w n) seat w l.worker l.at l.lives (record { own = refl; spares = λ u m. refl; spares_nodes = λ m. refl; brings_none = refl })
      c.jobs c.made c.delivered (on_workers.jobs_stay (NoticeNode w n) refl refl) (λ g. notice_node_step g n)
      (λ a. steps_stay_legal.steps.node_notices _ _ n (λ v i. absurd (cc)) (at_once a (on_workers.sound_at_once _ _ _ _ _ a (a.lived, killed) (λ u. refl))) (on_workers.dead_node_then (NoticeNode w n) seat n killed))
      (steps_land.notice_node_adds _ n)
      (λ u lands. steps_land.notice_node _ S facts _ n u (dead_on s log c b facts t w l.worker (b.knows.housed w l.worker l.at l.lives).0 l.at l.lives n k.node k.at k.lives) lands)
      (own_stay c sound.jobs w l.worker l.at _ (λ i p. out_at_release i (notice_node_step (here c w l.worker (b.knows.housed w l.worker l.at l.lives).0) n) (out_at_node_notice i (here c w l.worker (b.knows.housed w l.worker l.at l.lives).0) n p)))

  -- ---- deliveries

  deliver_to : (k seat : ℕ) (l : Envelope) → item_at c.network k ≡ Some l → (r : Endpoint) → l.receiver ≡ r → Follows s log (Deliver k) seat (delivered_to (with_delivered c k) l r)
  deliver_to k seat l sent (TheWorker w) to = at_test (λ i. is_live_worker (worker_at c w) ≡ i → Follows s log (Deliver k) seat (if i then worker_does (with_delivered c k) w (λ g. reached g l.sender l.message) else moved (with_delivered c k)))
      (is_live_worker (worker_at c w)) lives passes refl
    where
      passes : is_live_worker (worker_at c w) ≡ false → is_live_worker (worker_at c w) ≡ false → Follows s log (Deliver k) seat (moved (with_delivered c k))
      passes gone _ = both s log (Deliver k) seat (moved (with_delivered c k)) (on_others.passes_by k seat (with_delivered c k).delivered (receiver_of l.receiver, ap goes_to_by sent))
          (nothing_done log facts (with_delivered c k) (Deliver k) seat (steps_land.beside log facts c (with_delivered c k).delivered c.jobs c.made t))
          (beside_jobs c (with_delivered c k) refl refl sound.jobs)

      is_to_worker : goes_to_by (item_at c.network k) ≡ Some (ToWorker w)
      is_to_worker = ap goes_to_by sent ∙ ap (λ r. Some (receiver_of r)) to

      said : SaysBetween (past (log ++ In (Deliver k) seat ∷ []) b.asked) l.sender (TheWorker w) l.message
      said = subst (λ (r : Endpoint). SaysBetween (past (log ++ In (Deliver k) seat ∷ []) b.asked) l.sender r l.message) to (said_behind s log c b k seat l sent)

      true_there : MessageTrue facts (TheWorker w) l.message
      true_there = subst (λ (r : Endpoint). MessageTrue facts r l.message) to (steps_land.envelope facts c.network k l t.network sent)

      lives : is_live_worker (worker_at c w) ≡ true → is_live_worker (worker_at c w) ≡ true → Follows s log (Deliver k) seat (worker_does (with_delivered c k) w (λ g. reached g l.sender l.message))
      lives live _ =
          let x = live_worker c w live in
          worker_event (Deliver k) seat w x.worker x.at x.lives (record { own = ap worker_to is_to_worker; spares = λ u m. refl; spares_nodes = λ m. refl; brings_none = refl })
          c.jobs c.made (with_delivered c k).delivered (on_workers.jobs_stay (Deliver k) refl refl) (λ g. reached g l.sender l.message)
          (λ a. steps_stay_legal.steps.reaches _ _ l.sender l.message (λ v i. absurd (cc)) (on_workers.sound_at_once _ _ _ _ _ a (ToWorker w, is_to_worker) (λ u. refl)) said)
          (steps_land.reaches_adds _ l.sender l.message)
          (λ u lands. steps_land.reaches _ S facts _ l.sender l.message u true_there (untouched s log c b facts t w x.worker (b.knows.housed w x.worker x.at x.lives).0 x.at x.lives l.message true_there) lands)
          (own_stay c sound.jobs w x.worker x.at _ (λ i p. out_at_release i (reached (here c w x.worker (b.knows.housed w x.worker x.at x.lives).0) l.sender l.message)
          (out_at_message i (here c w x.worker (b.knows.housed w x.worker x.at x.lives).0) l.sender l.message (λ run is. ((b.knows.workers w x.worker x.at x.lives).run run is).over) p)))
  deliver_to k seat l sent (TheNode n) to = at_test (λ i. Follows s log (Deliver k) seat (if i then node_does (with_delivered c k) n (λ g. node_reached g l.sender l.message) else moved (with_delivered c k)))
      (is_live_node (node_at c n)) lives passes
    where
      passes : is_live_node (node_at c n) ≡ false → Follows s log (Deliver k) seat (moved (with_delivered c k))
      passes gone = both s log (Deliver k) seat (moved (with_delivered c k)) (on_others.passes_by k seat (with_delivered c k).delivered (receiver_of l.receiver, ap goes_to_by sent))
          (nothing_done log facts (with_delivered c k) (Deliver k) seat (steps_land.beside log facts c (with_delivered c k).delivered c.jobs c.made t))
          (beside_jobs c (with_delivered c k) refl refl sound.jobs)

      lives : is_live_node (node_at c n) ≡ true → Follows s log (Deliver k) seat (node_does (with_delivered c k) n (λ g. node_reached g l.sender l.message))
      lives live =
          let x = live_node c n live in
          both s log (Deliver k) seat (node_does (with_delivered c k) n (λ g. node_reached g l.sender l.message))
          (subst (λ (m : Transition). Between s (log ++ In (Deliver k) seat ∷ m.out.entries) m.whole) (ap (node_does_by (with_delivered c k) n (λ g. node_reached g l.sender l.message)) (sym x.at)) (on_others.node_reached k seat n x.node l sent to x.at x.lives (with_delivered c k).delivered))
          (subst (λ (m : Transition). StillTrue log (Deliver k) seat m) (to_node live) (steps_land.delivers log facts S c (Deliver k) seat k t (λ i w y node j p q r. absurd (other i w j p))))
          (subst (λ (m : Transition). JobsAreOut m.whole) (ap (node_does_by (with_delivered c k) n (λ g. node_reached g l.sender l.message)) (sym x.at))
          (let u = node_reached (there (with_delivered c k) n x.node) l.sender l.message in
          jobs_kept c (after_node (with_delivered c k) n u).whole refl u.opened (long_opened c c.workers u.opened n refl) (from_opened c c.workers u.opened n refl (from_same c)) sound.jobs))
        where
          clash : (w : ℕ) → TheNode n ≡ TheWorker w → ⊥
          clash w e = cc

          other : (i : Envelope) (w : ℕ) → item_at c.network k ≡ Some i → i.receiver ≡ TheWorker w → ⊥
          other i w j p = clash w (sym to ∙ ap (λ (v : Envelope). v.receiver) (same_Some l i (sym sent ∙ j)) ∙ p)

          to_node : is_live_node (node_at c n) ≡ true → delivered_by c k (item_at c.network k) ≡ node_does (with_delivered c k) n (λ g. node_reached g l.sender l.message)
          to_node i = ap (delivered_by c k) sent ∙ ap (delivered_to (with_delivered c k) l) to ∙ ap (λ v. if v then node_does (with_delivered c k) n (λ g. node_reached g l.sender l.message) else moved (with_delivered c k)) i

  deliver_event : (k seat : ℕ) (handed : CommitInput) → refusal c (Deliver k) handed ≡ None → Follows s log (Deliver k) seat (happens c (Deliver k) handed)
  deliver_event k seat handed r = go (item_at c.network k) refl (unless_none (is_some (item_at c.network k)) NoMessage r)
    where
      go : (o : Option Envelope) → item_at c.network k ≡ o → is_some o ≡ true → Follows s log (Deliver k) seat (delivered_by c k o)
      go None e h = absurd (cc)
      go (Some l) e h = deliver_to k seat l e l.receiver refl

  -- ---- commits

  commit_event : (j seat : ℕ) (handed : CommitInput) → refusal c (Commit j) handed ≡ None → IsRight s c (Commit j) handed → Follows s log (Commit j) seat (happens c (Commit j) handed)
  commit_event j seat handed r right = go handed (item_at c.jobs j) refl r right
    where
      never : false ≡ true → ⊥
      never q = cc

      nothing : (g : JobRecord) → not g.is_committed && false ≡ true → ⊥
      nothing g q = never (and_parts (not g.is_committed) false q).1

      go : (handed : CommitInput) (o : Option JobRecord) → item_at c.jobs j ≡ o → commit_refusal c j handed o ≡ None → IsRight s c (Commit j) handed → Follows s log (Commit j) seat (committed_by c j handed o)
      go handed None e h right = absurd (cc)
      go Nothing (Some g) e h right = absurd (nothing g (and_parts (not g.is_committed && false) (is_out_by (worker_at c g.worker) j) (unless_none _ NoJob (or_none _ _ h).0)).0)
      go OfAnother (Some g) e h right = absurd (nothing g (and_parts (not g.is_committed && false) (is_out_by (worker_at c g.worker) j) (unless_none _ NoJob (or_none _ _ h).0)).0)
      go (OfJob o) (Some g) e h right =
          let parts = or_none (unless (not g.is_committed && true && is_out_by (worker_at c g.worker) j) NoJob) (unless (is_live_worker (worker_at c g.worker)) Stale) h in
          let l = live_worker c g.worker (unless_none (is_live_worker (worker_at c g.worker)) Stale parts.1) in
          let a = and_parts (not g.is_committed && true) (is_out_by (worker_at c g.worker) j) (unless_none (not g.is_committed && true && is_out_by (worker_at c g.worker) j) NoJob parts.0) in
          let fresh : g.is_committed ≡ false = not-true g.is_committed (and_parts (not g.is_committed) true a.0).0 in
          let run = out_run l.worker.run j (ap (λ (i : Option Worker). is_out_by i j) (sym l.at) ∙ a.1) in
          let claimed : worker_of_job j log ≡ Some g.worker = ap (λ (ws : List ℕ). from_one ws j) b.knows.claims ∙ from_one_of (λ (i : JobRecord). i.worker) c.jobs j g e in
          let done = right g l.worker run.0 e l.at run.1 run.2 in
          worker_event (Commit j) seat g.worker l.worker l.at l.lives (record { own = claimed; spares = λ v n. refl; spares_nodes = λ n. refl; brings_none = refl })
          (with_committed c j (objects_made o.births)).jobs (with_committed c j (objects_made o.births)).made c.delivered (on_workers.job_committed j g e) (λ k. commit_step k o)
          (λ arrived. steps_stay_legal.steps.commits _ _ j run.0 o refl arrived (on_workers.knows_at_once _ _ _ _ _ arrived (λ u. refl)) (record {
            is = run.1;
            out = run.2;
            claimed = claimed;
            once = b.knows.commits j ∙ ap committed_in e ∙ fresh;
            done = record { replayed = done; of_main = only_main_prints S apart log g.worker l.worker run.0 o b.legal ((b.knows.workers g.worker l.worker l.at l.lives).run run.0 run.1) done };
          }))
          (steps_land.commit_adds _ o)
          (λ u lands. steps_land.commit _ S facts _ run.0 o u run.1 (next_there g l) lands)
          (own_committed c sound.jobs g.worker l.worker l.at j run.0 run.1 run.2 _)
        where
          next_there : (g : JobRecord) (l : WorkerThere c g.worker true) → length l.worker.objects + 1 ≡ next_serial g.worker (births (log ++ In (Commit j) seat ∷ []))
          next_there g l = sym (ap (next_serial g.worker) (births_in log (Commit j) seat) ∙ (b.knows.workers g.worker l.worker l.at l.lives).serial)

  -- ---- events of nobody

  killed_jobs : (w : ℕ) → JobsAreOut (killed c w).whole
  killed_jobs w = by_worker (worker_at c w)
    where
      front : List Worker
      front = changed_at c.workers w dead

      long : length front ≡ length c.workers
      long = changed-length c.workers w dead

      by_node : (x : Worker) (o : Option Node) → JobsAreOut (node_does_by (record c { workers = changed_at c.workers w dead }) x.node (λ h. forgets h w) o).whole
      by_node x None = jobs_kept c (record c { workers = changed_at c.workers w dead }) refl 0 (let e = long in omega (arith, e)) (from_killed c w) sound.jobs
      by_node x (Some node) =
          let u = forgets (there (record c { workers = changed_at c.workers w dead }) x.node node) w in
          jobs_kept c (after_node (record c { workers = changed_at c.workers w dead }) x.node u).whole refl u.opened (long_opened c front u.opened x.node long) (from_opened c front u.opened x.node long (from_killed c w)) sound.jobs

      by_worker : (o : Option Worker) → JobsAreOut (killed_by c w o).whole
      by_worker None = sound.jobs
      by_worker (Some x) = by_node x (node_at c x.node)

  happens_to : (e : Event) (seat : ℕ) (handed : CommitInput) → refusal c e handed ≡ None → IsRight s c e handed → Follows s log e seat (happens c e handed)
  happens_to (Claim w) seat handed r right = claim_event w seat handed r
  happens_to (Commit j) seat handed r right = commit_event j seat handed r right
  happens_to (Deliver k) seat handed r right = deliver_event k seat handed r
  happens_to (Tick w) seat handed r right = tick_event w seat handed r
  happens_to (Notice w v) seat handed r right = notice_event w v seat handed r
  happens_to (NoticeNode w n) seat handed r right = node_notice_event w n seat handed r
  happens_to (Evict n o) seat handed r right = record { between = on_others.evicted n seat o (store_node_lives s log c b n (evict_refusal o) r); jobs = beside_jobs c (happens c (Evict n o) Nothing).whole refl refl sound.jobs; past = facts; held = steps_land.evicts (log ++ In (Evict n o) seat ∷ []) facts c n o (steps_land.comes log facts c (Evict n o) seat t) }
  happens_to (Lose n o) seat handed r right = record { between = on_others.lost n seat o (store_node_lives s log c b n (lose_refusal o) r); jobs = beside_jobs c (happens c (Lose n o) Nothing).whole refl refl sound.jobs; past = facts; held = steps_land.loses (log ++ In (Lose n o) seat ∷ []) facts c n o (steps_land.comes log facts c (Lose n o) seat t) }
  happens_to (Kill w) seat handed r right =
      let l = live_worker c w (unless_none (is_live_worker (worker_at c w)) NoWorker r) in
      both s log (Kill w) seat (happens c (Kill w) handed) (on_others.killed w seat l.worker l.at l.lives)
      (steps_land.worker_dies log facts c (Kill w) seat w t (worker_killed_in s log c b (Kill w) seat w l.worker l.at (eq-eqb w w refl)))
      (killed_jobs w)
  happens_to (KillNode n) seat handed r right =
      let l = live_node c n (unless_none (is_live_node (node_at c n)) NoNode r) in
      record {
        between = on_others.node_killed n seat l.node l.at l.lives;
        past = _;
        jobs = jobs_kept c (happens c (KillNode n) handed).whole refl 0 (let e = mapped_length (dies_with n) c.workers in omega (arith, e)) (from_dead_node c n) sound.jobs;
        held = steps_land.node_dies (log ++ In (KillNode n) seat ∷ []) facts c n (steps_land.comes log facts c (KillNode n) seat t) (λ w x at i. worker_killed_in s log c b (KillNode n) seat w x at (flipped n x.node i));
      }
    where
      flipped : (n m : ℕ) → (m == n) ≡ true → (n == m) ≡ true
      flipped n m i = subst (λ k. (k == m) ≡ true) (eqb-true m n i) (eq-eqb m m refl)
  happens_to Join seat handed r right = record { between = on_others.joined seat; jobs = beside_jobs c (happens c Join Nothing).whole refl refl sound.jobs; past = facts; held = steps_land.joins (log ++ In Join seat ∷ []) facts c (steps_land.comes log facts c Join seat t) }

  -- ---- one event, refused or taken

  abbrev Stands : Event → ℕ → Answer → Type 0
  Stands e seat a = IsSound s (log ++ logged e seat a) (whole_after c a)

  refused_event : (e : Event) (seat : ℕ) (code : Refusal) → IsRefusal S log e code → IsSound s (log ++ In e seat ∷ Refused code ∷ []) c
  refused_event e seat code cause = record { between = on_others.refused e seat code cause; jobs = sound.jobs; past = facts; held = refused_true log facts c e seat code t }

  pub event_stays : (e : Event) (seat : ℕ) (handed : CommitInput) → IsRight s c e handed → Stands e seat (answer c e handed)
  event_stays e seat handed right = go (refusal c e handed) refl
    where
      go : (o : Option Refusal) → refusal c e handed ≡ o → Stands e seat (decided c e handed o)
      go (Some code) r = refused_event e seat code (refused_for_cause s log c b e handed code r)
      go None r = at_test (λ i. Stands e seat (if i then takes (happens c e handed) (given_out c e) else Refuses Limit)) (is_within_limits (happens c e handed).whole)
          (λ i. happens_to e seat handed r right)
          (λ i. refused_event e seat Limit (limited_for_cause s log c b e handed r (λ w q. idle_claim w handed (subst (λ x. refusal c x handed ≡ None) q r))))

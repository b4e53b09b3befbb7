-- Every event brings the whole on, so that each message still gets its reply.
use Rattle.std.proofs.Common.{◌≡◌, ℕ, zero, suc, ◌+◌, ◌≤◌, List, [], ◌∷◌, ◌++◌, length, map, Some, None, Option, refl, ap, sym, subst, ◌∙◌, inl, inr}
use Rattle.std.proofs.Common.{append-nil, arith}
use Rattle.std.specs.Prelude.{Bool, true, false, if◌then◌else◌, not, ◌==◌, ◌&&◌, is_some}
use Rattle.std.specs.List.{list_any}
use Rattle.std.proofs.lemmas.Bool.Decides.{nat_tests}
use Rattle.std.proofs.lemmas.Bool.{false_from_ne_true}
use Rattle.sequence.proofs.Places.{and_right}
use Rattle.meaning.proofs.BirthLaws.{at_test}
use Rattle.meaning.specs.Readings.{IsBorn}
use Rattle.meaning.specs.Runs.{Over, Stop, behind, next_id}
use Rattle.meaning.specs.Values.{Birth, Id, Outcome, Put, Task, Value, results_of}
use Rattle.values.specs.Listed.{each_once, ids_in_outcome}
use Rattle.event_log.specs.Commits.{commit_entries}
use Rattle.event_log.specs.Breaks.{Among}
use Rattle.event_log.specs.Entries.{Attempt, Born, Claim, Commit, Deliver, Ended, Entry, Event, Evict, In, Join, Kill, KillNode, Lose, Notice, NoticeNode, Tick}
use Rattle.event_log.specs.Entries.{Refusal, NoWorker, NotReady, NoJob, Stale, NoMessage, NotDead}
use Rattle.event_log.specs.Events.{accepted_events}
use Rattle.event_log.specs.Holding.{ids_of_birth}
use Rattle.event_log.specs.Rules.{Setting}
use Rattle.event_log.specs.Words.{births, same_attempt}
use Rattle.event_log.proofs.EventLaws.{accepted-event}
use Rattle.protocol.specs.Jobs.{AtEnd, AtGet, JobRecord, CommitInput, Nothing, OfAnother, OfJob, Outcomes, Stopped, stop_of}
use Rattle.protocol.specs.Messages.{EndedResult}
use Rattle.protocol.specs.Messages.{Envelope, envelope, Message, Endpoint, TheWorker, TheNode, Ask, Give, Elsewhere, Wait, Back, Push, Finished, FinishedAck, Failed}
use Rattle.protocol.specs.Messages.{Where, At, Gone, Fetch, CopyOf, Missing, Hold, HoldAck, Unhold}
use Rattle.protocol.specs.Nodes.{Node, NodeContext}
use Rattle.protocol.specs.Numbered.{changed_at, item_at}
use Rattle.protocol.specs.Sets.{object_id, repeated}
use Rattle.protocol.specs.Steps.{WorkerContext, own_id, own_object}
use Rattle.protocol.specs.Tables.{is_pending_task, HasEnded, Object, Out, OwnTask, Execution, Worker, has_stopped, new_task, needed_by, knows_dead, new_worker, with_content, with_dead_holder, with_holder}
use Rattle.protocol.specs.Runs.{begins_run, is_free, push_reached}
use Rattle.protocol.specs.Slots.{forgets, node_reached}
use Rattle.protocol.specs.Ends.{finished_reached}
use Rattle.protocol.specs.Asking.{rests}
use Rattle.protocol.specs.Holders.{adds_holder, awaits_hold_by, holding, holds_id, holds_ids, sends_hold}
use Rattle.protocol.specs.Commits.{each_holds, keeps_content, keeps_contents, task_objects, with_objects, bears, stops_by, bears_all, claim_by, claim_step, commit_by, commit_step, next_id_here, stops, with_outcomes}
use Rattle.smallest_steps.proofs.Over.{each_from-kept, settles-kept}
use Rattle.protocol.specs.Steps.{with_task_of, changes, is_own, logs_all, with_phase, with_run}
use Rattle.protocol.specs.Deliveries.{reached}
use Rattle.protocol.specs.Notices.{notice_node_step, notice_step}
use Rattle.protocol.specs.Ticks.{tick_step}
use Rattle.protocol.specs.Releases.{release_step}
use Rattle.protocol.specs.Cluster.{Transition, ClusterState, after_node, after_worker, here, moved, node_at, node_does, node_does_by, there, worker_at, worker_does, worker_does_at, worker_does_by}
use Rattle.protocol.specs.Events.{as_committed, claimed, committed_by, dead, delivered_by, delivered_to, dies_with, happens, is_live_node, is_live_worker, killed_by, with_committed, with_delivered, objects_made}
use Rattle.protocol.specs.Refusals.{commit_refusal, is_dead_node, is_dead_worker, is_of_job, is_out_by, is_ready, no_worker, or_refusal, refusal, unless}
use Rattle.protocol_owed.specs.Replies.{IsRequest}
use Rattle.protocol_owed.proofs.Moves as M
use Rattle.protocol_owed.proofs.Counting.{happens-counted, no_event, not_refused}
use Rattle.protocol_owed.proofs.CourseAll.{both_passed, passed}
use Rattle.protocol_owed.proofs.CourseEvents.{append_split, one_of}
use Rattle.protocol_owed.proofs.Envelopes.{among-behind, among-nothing}
use Rattle.protocol_owed.proofs.Nodes.{Keeps, changed_cases, there_more, there_still}
use Rattle.protocol_owed.proofs.NodeMoves.{forgets-kept, node_reached-kept}
use Rattle.protocol_owed.proofs.Replying.{Logged, logged_after, logged_stays}
use Rattle.protocol_owed.specs.Told.{attempt_by}
use Rattle.protocol_owed.proofs.CourseRuns.{OutOf, out_of}
use Rattle.lease_discipline.specs.Told.{IsInStep}
use Rattle.lease_discipline.proofs.Events.{item_map}
use Rattle.lease_discipline.proofs.Heres.{changed_now}
use Rattle.lease_discipline.proofs.Tame.{item_mapped}
use Rattle.lease_discipline.specs.of_protocol_legal.Knows.{KnowsObject}
use Rattle.lease_discipline.specs.of_protocol_legal.Past.{Past, past}
use Rattle.owed_replies.specs.Kept.{IsAwaitedBy, IsRightEnvelope, KeepsReplies}
use Rattle.owed_replies.proofs.Objects.{grows_itself, put_grows, same_grows}
use Rattle.owed_replies.proofs.Moves as R
use Rattle.owed_replies.proofs.Moves.{needs-kept, notice_node_step-kept, notice_step-kept, reached-kept, release_step-kept, tick_step-kept}
use Rattle.owed_replies.proofs.Paying.{pays_kept}
use Rattle.owed_replies.proofs.Committing.{NamesBorn, claim_pays, commit_pays, finish_pays, push_pays, release_step-run}
use Rattle.owed_replies.proofs.Moves.{finished_reached-kept}
use Rattle.owed_replies.proofs.Quiet.{IsMadeBy, OfPut, OfTask, Origin, origin_of}
use Rattle.smallest_steps.proofs.Smallest.{AnyTold}
use Rattle.owed_replies.proofs.Steady.{IsAwaited, IsSteady, leaves_steady, missing_waits, steady_kept, still_awaited, where_waits}
use Rattle.owed_replies.proofs.Advancing.{Advances, IsBrought, advanced, owner_has, request_born}
use Rattle.owed_replies.proofs.Known.{named_in_birth, named_in_end, need_known}
use Rattle.owed_replies.proofs.Events.{IsOf, IsOfNode, LeavesWorkers, Q, begins, final, moved_on, of_node_kept, quiet_advances, start, worker_advances}

-- ---- a worker stays alive

abbrev Lives : WorkerContext → Type 0
Lives h = h.worker.is_live ≡ true

lives_kept : M.IsKept Lives
lives_kept = record {
  logs = λ h es q p. p;
  says = λ h w m p. p;
  says_to_node = λ h n m p. p;
  worker = λ h x n l p. l ∙ p;
  store = λ h s p. p;
  frees = λ h p. p;
  asks = λ h p. p;
}

lives_on : (f : WorkerContext → WorkerContext) → Keeps f → (h : WorkerContext) → Lives h → Lives (release_step (f h))
lives_on f keeps h p = M.release_step-kept Lives lives_kept (f h) (keeps Lives lives_kept h p)

-- ---- the attempt stays

steady_start : (h : WorkerContext) → IsSteady h.worker.objects (attempt_by h.worker.run) h
steady_start h = record { grows = grows_itself h.worker.objects; attempt = refl }

steady_end : (h g : WorkerContext) → IsSteady h.worker.objects (attempt_by h.worker.run) g → IsSteady h.worker.objects (attempt_by h.worker.run) (release_step g)
steady_end h g s = release_step-kept (IsSteady h.worker.objects (attempt_by h.worker.run)) (steady_kept h.worker.objects (attempt_by h.worker.run)) g s

finish_steady : (h : WorkerContext) (w : ℕ) (a : Attempt) (n : ℕ) (rs : List EndedResult) → IsSteady h.worker.objects (attempt_by h.worker.run) (finished_reached h w a n rs)
finish_steady h w a n rs =
    let old : List Object = h.worker.objects in
    let kept : R.IsKept (IsSteady old (attempt_by h.worker.run)) = steady_kept old (attempt_by h.worker.run) in
    finished_reached-kept (IsSteady old (attempt_by h.worker.run)) kept AnyTold
    (λ g b task m ts u _ _ _ q. settles-kept (IsSteady old (attempt_by h.worker.run))
    (λ x o number i r t. kept.objects x _
    (same_grows x.worker.objects o.serial (with_content number i r.ids r.kept) (λ y. record { askers = λ v f. inr (inl refl); answered = λ _. inl refl })) t)
    (results_of task.spec) (with_task_of g b.object (rests task)) b.object b.number m ts (kept.objects g _ (put_grows g b.object (rests task)) q))
    h w a n rs tt (steady_start h)

-- a Push that finds the attempt going on is passed over
push_steady : (h : WorkerContext) (a : Attempt) (spec : Birth) (run : Execution) → h.worker.run ≡ Some run → run.is_over ≡ false → IsSteady h.worker.objects (attempt_by h.worker.run) (push_reached h a spec)
push_steady h a spec run e going =
    subst (λ b. IsSteady h.worker.objects (attempt_by h.worker.run) (if b && not (list_any (λ b. same_attempt b a) h.worker.began) then begins_run h a spec else h))
    (sym (ap is_free e ∙ going)) (steady_start h)

module _ (h : WorkerContext) (run : Execution) (e : h.worker.run ≡ Some run) (going : run.is_over ≡ false) where
  abbrev T : WorkerContext → Type 0
  T = IsSteady h.worker.objects (attempt_by h.worker.run)

  heard_steady : (w : ℕ) (m : Message) → R.IsHeard T (steady_kept h.worker.objects (attempt_by h.worker.run)) h w m
  heard_steady w (Push a spec) = push_steady h a spec run e going
  heard_steady w (Finished a n rs) = finish_steady h w a n rs
  heard_steady w (FinishedAck a) = tt
  heard_steady w (Failed a f) = tt
  heard_steady w (Ask a t) = tt
  heard_steady w (Give a t v) = tt
  heard_steady w (Elsewhere a t n) = tt
  heard_steady w (Wait a t) = tt
  heard_steady w (Back a) = tt
  heard_steady w (Where o) = tt
  heard_steady w (At o number ns kept) = tt
  heard_steady w (Gone o f) = tt
  heard_steady w (Fetch o number) = tt
  heard_steady w (CopyOf o number c) = tt
  heard_steady w (Missing o number n) = tt
  heard_steady w (Hold k o) = tt
  heard_steady w (HoldAck k o) = tt
  heard_steady w (Unhold k o why) = tt

  heard_from : (p : Endpoint) (m : Message) → R.IsHeardFrom T (steady_kept h.worker.objects (attempt_by h.worker.run)) h p m
  heard_from (TheWorker w) m = heard_steady w m
  heard_from (TheNode n) m = tt

  reached_steady : (p : Endpoint) (m : Message) → T (release_step (reached h p m))
  reached_steady p m = steady_end h (reached h p m)
      (reached-kept T (steady_kept h.worker.objects (attempt_by h.worker.run)) h p m (heard_from p m) tt (steady_start h))

-- ---- a claim and a commit

claim_steady : (h : WorkerContext) (j : ℕ) → attempt_by (release_step (claim_step h j)).worker.run ≡ attempt_by h.worker.run
claim_steady h j = ap attempt_by (release_step-run (claim_step h j)) ∙ by_run h.worker.run refl
  where
    by_run : (r : Option Execution) → h.worker.run ≡ r → attempt_by (claim_by h j r).worker.run ≡ attempt_by h.worker.run
    by_run None e = refl
    by_run (Some run) e = ap attempt_by (sym e)

-- whatever a commit logs at first stays logged
pub committed_logged : (h : WorkerContext) (d : Outcomes) (run : Execution) → h.worker.run ≡ Some run → (x : Entry) →
    Among x (commit_entries run.attempt (next_id_here h) d.births d.prints (stop_of d.stop)) → Logged x (release_step (commit_step h d))
committed_logged h d run e x i =
    let g : WorkerContext = logs_all (with_run h (with_outcomes run d)) (commit_entries run.attempt (next_id_here h) d.births d.prints (stop_of d.stop)) in
    let same : commit_step h d ≡ stops (bears_all g run.attempt d.births) d.stop = ap (commit_by h d) e in
    logged_after x (commit_step h d) (subst (Logged x) (sym same)
    (M.stops-kept (Logged x) (logged_stays x) (bears_all g run.attempt d.births) d.stop
    (M.bears_all-kept (Logged x) (logged_stays x) g run.attempt d.births (among-behind h.there.out.entries _ x i))))

birth_logged : (a : Attempt) (b : Birth) (o : Id) (bs : List Birth) (vs : List Value) (stop : Stop) → Among b bs → (p : Id) × Among (Born p a b) (commit_entries a o bs vs stop)
birth_logged a b o [] vs stop (k, e) = absurd (cc)
birth_logged a b o (x ∷ bs) vs stop (zero, e) = let same : x ≡ b = cc in (o, (zero, ap (λ y. Some (Born o a y)) same))
birth_logged a b o (x ∷ bs) vs stop (suc k, e) = let r = birth_logged a b (behind o x) bs vs stop (k, e) in (r.0, (suc r.1.0, r.1.1))

pub end_logged : (a : Attempt) (cs : List Outcome) (o : Id) (bs : List Birth) (vs : List Value) → Among (Ended a cs) (commit_entries a o bs vs (Over cs))
end_logged a cs o (b ∷ bs) vs = let r = end_logged a cs (behind o b) bs vs in (suc r.0, r.1)
end_logged a cs o [] (v ∷ vs) = let r = end_logged a cs o [] vs in (suc r.0, r.1)
end_logged a cs o [] [] = (zero, refl)

holds_id-attempt : (h : WorkerContext) (e o : Id) → attempt_by (holds_id h e o).worker.run ≡ attempt_by h.worker.run
holds_id-attempt h e o =
    at_test (λ b. attempt_by (if b then adds_holder h e o else if knows_dead h.worker o.owner then h else sends_hold h e o).worker.run ≡ attempt_by h.worker.run)
    (is_own h o) (λ _. at_test (λ b. attempt_by (if b then changes (changes h o (with_holder e)) o (with_dead_holder e) else
    changes h o (with_holder e)).worker.run ≡ attempt_by h.worker.run) (knows_dead h.worker e.owner) (λ _. refl) (λ _. refl))
    (λ _. at_test (λ b. attempt_by (if b then h else sends_hold h e o).worker.run ≡ attempt_by h.worker.run) (knows_dead h.worker o.owner) (λ _. refl)
    (λ _. by_run h.worker.run refl))
  where
    by_run : (r : Option Execution) → h.worker.run ≡ r → attempt_by (awaits_hold_by h (holding e o) r).worker.run ≡ attempt_by h.worker.run
    by_run None f = refl
    by_run (Some run) f = ap attempt_by (sym f)

holds_ids-attempt : (h : WorkerContext) (e : Id) (os : List Id) → attempt_by (holds_ids h e os).worker.run ≡ attempt_by h.worker.run
holds_ids-attempt h e [] = refl
holds_ids-attempt h e (o ∷ os) = holds_ids-attempt (holds_id h e o) e os ∙ holds_id-attempt h e o

each_holds-attempt : (h : WorkerContext) (e : Id) (task : OwnTask) (os : List Id) → attempt_by (each_holds h e task os).worker.run ≡ attempt_by h.worker.run
each_holds-attempt h e task os =
    each_from-kept (λ g. attempt_by g.worker.run ≡ attempt_by h.worker.run) (λ g k. holds_ids g (own_id g k) os)
    (λ g k p. holds_ids-attempt g (own_id g k) os ∙ p) h e.serial (results_of task.spec) refl

keeps_contents-attempt : (h : WorkerContext) (o : Id) (number : ℕ) (cs : List Outcome) → attempt_by (keeps_contents h o number cs).worker.run ≡ attempt_by h.worker.run
keeps_contents-attempt h o number [] = refl
keeps_contents-attempt h o number (c ∷ cs) =
    keeps_contents-attempt (keeps_content h o number c) (next_id o) number cs ∙ holds_ids-attempt _ o (each_once (ids_in_outcome c))

bears-attempt : (h : WorkerContext) (a : Attempt) (b : Birth) → attempt_by (bears h a b).worker.run ≡ attempt_by h.worker.run
bears-attempt h a (Put v) = holds_ids-attempt _ (next_id_here h) (each_once (ids_of_birth (Put v)))
bears-attempt h a (Task g args depth retries others) =
    let b : Birth = Task g args depth retries others in
    each_holds-attempt (with_objects h (task_objects a (next_id_here h).serial b others (each_once (ids_of_birth b)))) (next_id_here h) (new_task b) (each_once (ids_of_birth b))

bears_all-attempt : (h : WorkerContext) (a : Attempt) (bs : List Birth) → attempt_by (bears_all h a bs).worker.run ≡ attempt_by h.worker.run
bears_all-attempt h a [] = refl
bears_all-attempt h a (b ∷ bs) = bears_all-attempt (bears h a b) a bs ∙ bears-attempt h a b

stops-attempt : (h : WorkerContext) (stop : Stopped) → attempt_by (stops h stop).worker.run ≡ attempt_by h.worker.run
stops-attempt h stop = by_run h.worker.run refl stop
  where
    by_run : (r : Option Execution) → h.worker.run ≡ r → (stop : Stopped) → attempt_by (stops_by h stop r).worker.run ≡ attempt_by h.worker.run
    by_run None e stop = refl
    by_run (Some run) e (AtGet y) =
        let a : Option Attempt = attempt_by h.worker.run in
        (needs-kept (IsSteady h.worker.objects a) (steady_kept h.worker.objects a) h run y
        (record { grows = grows_itself h.worker.objects; attempt = ap attempt_by (sym e) })).attempt
    by_run (Some run) e (AtEnd cs) =
        let f : WorkerContext = with_phase h run (HasEnded cs) in
        let g : WorkerContext = keeps_contents f run.attempt.object run.attempt.number cs in
        (leaves_steady g.worker.objects (attempt_by g.worker.run) g (steady_start g)).attempt ∙
        keeps_contents-attempt f run.attempt.object run.attempt.number cs ∙ ap attempt_by (sym e)

commit_steady : (h : WorkerContext) (d : Outcomes) (run : Execution) → h.worker.run ≡ Some run → attempt_by (release_step (commit_step h d)).worker.run ≡ Some run.attempt
commit_steady h d run e =
    let g : WorkerContext = logs_all (with_run h (with_outcomes run d)) (commit_entries run.attempt (next_id_here h) d.births d.prints (stop_of d.stop)) in
    let same : commit_step h d ≡ stops (bears_all g run.attempt d.births) d.stop = ap (commit_by h d) e in
    ap attempt_by (release_step-run (commit_step h d)) ∙ ap (λ (x : WorkerContext). attempt_by x.worker.run) same ∙
    stops-attempt (bears_all g run.attempt d.births) d.stop ∙ bears_all-attempt g run.attempt d.births

-- ---- who is there

pub record IsThere (o : Option Worker) : Type 0 where
  pub worker : Worker
  pub at : o ≡ Some worker
  pub live : worker.is_live ≡ true

pub live_there : (o : Option Worker) → is_live_worker o ≡ true → IsThere o
live_there None e = absurd (cc)
live_there (Some x) e = record { worker = x; at = refl; live = e }

differ : (b : Bool) → b ≡ true → b ≡ false → ⊥
differ b t f = cc

same_out : (p q : Execution) → ◌≡◌ {A = Option Execution} (Some p) (Some q) → p ≡ q
same_out p q e = cc

same_envelope : (p q : Envelope) → ◌≡◌ {A = Option Envelope} (Some p) (Some q) → p ≡ q
same_envelope p q e = cc

same_receiver : (v w : ℕ) → ◌≡◌ {A = Endpoint} (TheWorker v) (TheWorker w) → w ≡ v
same_receiver v w e = cc

-- ---- events

module _ (s : Setting) (log : List Entry) (c : ClusterState) (before : IsInStep s log c) (k : KeepsReplies log c) (seat : ℕ) where
  abbrev with_parts : List JobRecord → ℕ → List Bool → ClusterState
  with_parts jobs made delivered = record c { jobs = jobs; made = made; delivered = delivered }

  -- what a live worker does
  does_advance : (e : Event) (jobs : List JobRecord) (made : ℕ) (delivered : List Bool) (me : ℕ) (x : Worker) (at : worker_at c me ≡ Some x) (live : x.is_live ≡ true)
      (node : Node) → node_at c x.node ≡ Some node → (f : WorkerContext → WorkerContext) → Keeps f →
      (Q log c e seat k jobs made delivered me x node at live f (start log c e seat k jobs made delivered me x node at live f) →
      Q log c e seat k jobs made delivered me x node at live f (f (start log c e seat k jobs made delivered me x node at live f))) →
      ((i v : ℕ) (o : Id) (n : Message) → e ≡ Deliver i → item_at c.network i ≡ Some (envelope (TheWorker v) (TheWorker o.owner) n) → IsRequest o n →
      (o.owner ≡ me) × ((z : Object) → item_at (final log c e seat k jobs made delivered me x node at live f).worker.objects o.serial ≡ Some z → IsAwaitedBy v z)) →
      ((run : Execution) → x.run ≡ Some run → run.is_over ≡ false → IsOf (final log c e seat k jobs made delivered me x node at live f).worker run.attempt) →
      Advances log c e seat (worker_does (with_parts jobs made delivered) me f)
  does_advance e jobs made delivered me x at live node home f keeps step asks stays =
      let d : ClusterState = with_parts jobs made delivered in
      let same : worker_does d me f ≡ after_worker d me x.node (release_step (f (here d me x node))) = ap (worker_does_by d me f) at ∙ ap (worker_does_at d me x f) home in
      subst (Advances log c e seat) (sym same)
      (worker_advances log c e seat k jobs made delivered me x node at live f (step (begins log c e seat k jobs made delivered me x node at live f))
      (lives_on f keeps (here d me x node) live) asks stays)

  home_of : (w : ℕ) (x : Worker) → worker_at c w ≡ Some x → (node : Node) × (node_at c x.node ≡ Some node)
  home_of w x at = before.leases.homes w x at

  tick_advances : (w : ℕ) → no_worker c w ≡ None → Advances log c (Tick w) seat (worker_does c w tick_step)
  tick_advances w e =
      let x = live_there (worker_at c w) (passed (is_live_worker (worker_at c w)) NoWorker e) in
      let n = home_of w x.worker x.at in
      let h : WorkerContext = here c w x.worker n.0 in
      does_advance (Tick w) c.jobs c.made c.delivered w x.worker x.at x.live n.0 n.1 tick_step (λ P kept g p. M.tick_step-kept P kept g p)
      (λ q. tick_step-kept _ (pays_kept _ _ _ _ _ _) h tt tt q) (λ i v o m is. absurd (cc))
      (λ run is _. (steady_end h (tick_step h) (tick_step-kept _ (steady_kept x.worker.objects (attempt_by x.worker.run)) h tt tt (steady_start h))).attempt ∙ ap attempt_by is)

  notice_advances : (w v : ℕ) → or_refusal (no_worker c w) (unless (is_dead_worker (worker_at c v)) NotDead) ≡ None → Advances log c (Notice w v) seat (worker_does c w (λ h. notice_step h v))
  notice_advances w v e =
      let x = live_there (worker_at c w) (passed (is_live_worker (worker_at c w)) NoWorker (both_passed (no_worker c w) (unless (is_dead_worker (worker_at c v)) NotDead) e).0) in
      let n = home_of w x.worker x.at in
      let h : WorkerContext = here c w x.worker n.0 in
      does_advance (Notice w v) c.jobs c.made c.delivered w x.worker x.at x.live n.0 n.1 (λ g. notice_step g v) (λ P kept g p. M.notice_step-kept P kept g v p)
      (λ q. notice_step-kept _ (pays_kept _ _ _ _ _ _) h v q) (λ i u o m is. absurd (cc))
      (λ run is _. (steady_end h (notice_step h v) (notice_step-kept _ (steady_kept x.worker.objects (attempt_by x.worker.run)) h v (steady_start h))).attempt ∙ ap attempt_by is)

  notice_node_advances : (w m : ℕ) → or_refusal (no_worker c w) (unless (is_dead_node (node_at c m)) NotDead) ≡ None → Advances log c (NoticeNode w m) seat (worker_does c w (λ h. notice_node_step h m))
  notice_node_advances w m e =
      let x = live_there (worker_at c w) (passed (is_live_worker (worker_at c w)) NoWorker (both_passed (no_worker c w) (unless (is_dead_node (node_at c m)) NotDead) e).0) in
      let n = home_of w x.worker x.at in
      let h : WorkerContext = here c w x.worker n.0 in
      does_advance (NoticeNode w m) c.jobs c.made c.delivered w x.worker x.at x.live n.0 n.1 (λ g. notice_node_step g m) (λ P kept g p. M.notice_node_step-kept P kept g m p)
      (λ q. notice_node_step-kept _ (pays_kept _ _ _ _ _ _) h m q) (λ i u o v is. absurd (cc))
      (λ run is _. (steady_end h (notice_node_step h m) (notice_node_step-kept _ (steady_kept x.worker.objects (attempt_by x.worker.run)) h m (steady_start h))).attempt ∙ ap attempt_by is)

  claim_advances : (w : ℕ) → or_refusal (no_worker c w) (unless (is_ready c w) NotReady) ≡ None → Advances log c (Claim w) seat (claimed c w)
  claim_advances w e =
      let x = live_there (worker_at c w) (passed (is_live_worker (worker_at c w)) NoWorker (both_passed (no_worker c w) (unless (is_ready c w) NotReady) e).0) in
      let n = home_of w x.worker x.at in
      let jobs : List JobRecord = c.jobs ++ record { worker = w; is_committed = false } ∷ [] in
      let h : WorkerContext = here (with_parts jobs c.made c.delivered) w x.worker n.0 in
      does_advance (Claim w) jobs c.made c.delivered w x.worker x.at x.live n.0 n.1 (λ g. claim_step g (length c.jobs + 1)) (λ P kept g p. M.claim_step-kept P kept g (length c.jobs + 1) p)
      (λ q. claim_pays _ _ _ _ _ _ h (length c.jobs + 1) q) (λ i u o v is. absurd (cc))
      (λ run is _. claim_steady h (length c.jobs + 1) ∙ ap attempt_by is)

  -- ---- a commit

  out_going : (w : ℕ) (x : Worker) (j : ℕ) (run : Execution) → worker_at c w ≡ Some x → x.run ≡ Some run → run.phase ≡ Out j → run.is_over ≡ false
  out_going w x j run at is out = false_from_ne_true run.is_over (λ over.
      let f : has_stopped (Out j) ≡ true = ap has_stopped (sym out) ∙ (before.leases.workers.each w x at).stopped run is over in absurd (cc))

  module _ (j : ℕ) (o : Outcomes) (me : ℕ) (x : Worker) (at : worker_at c me ≡ Some x) (live : x.is_live ≡ true) (node : Node) (home : node_at c x.node ≡ Some node)
      (run : Execution) (is : x.run ≡ Some run) (out : run.phase ≡ Out j) where
    abbrev jobs_then : List JobRecord
    jobs_then = changed_at c.jobs j as_committed

    abbrev born_then : ℕ
    born_then = c.made + objects_made o.births

    abbrev commits : WorkerContext → WorkerContext
    commits h = commit_step h o

    abbrev at_first : WorkerContext
    at_first = start log c (Commit j) seat k jobs_then born_then c.delivered me x node at live commits

    abbrev at_last : WorkerContext
    at_last = final log c (Commit j) seat k jobs_then born_then c.delivered me x node at live commits

    abbrev log_then : List Entry
    log_then = log ++ In (Commit j) seat ∷ at_last.there.out.entries

    abbrev whole_then : ClusterState
    whole_then = (moved_on log c (Commit j) seat k jobs_then born_then c.delivered me x node at live commits).whole

    entries_stand : (y : Entry) → Among y (commit_entries run.attempt (next_id_here at_first) o.births o.prints (stop_of o.stop)) → Among y log_then
    entries_stand y i = let r = committed_logged at_first o run is y i in among-behind log _ y (suc r.0, r.1)

    names : IsInStep s log_then whole_then → NamesBorn log_then c.network me x.objects (IsBrought c (Commit j)) (IsOf at_last.worker) at_first o
    names after = record {
      births = λ b i p m.
          let r = birth_logged run.attempt b (next_id_here at_first) o.births o.prints (stop_of o.stop) i in
          named_in_birth s log_then whole_then after.sound r.0 run.attempt b (entries_stand (Born r.0 run.attempt b) r.1) p m;
      end = λ cs stops_so d i p m. named_in_end s log_then whole_then after.sound run.attempt cs (entries_stand (Ended run.attempt cs)
          (subst (λ q. Among (Ended run.attempt cs) (commit_entries run.attempt (next_id_here at_first) o.births o.prints (stop_of q))) (sym stops_so)
          (end_logged run.attempt cs (next_id_here at_first) o.births o.prints))) d i p m;
      need = λ y stops_so needed _. needed_then after y (ap needed_by (release_step-run (commits at_first)) ∙ needed);
    }
      where
        there_then : worker_at whole_then me ≡ Some at_last.worker
        there_then = there_more (changed_at c.workers me (λ _. at_last.worker)) (repeated at_last.there.opened (new_worker x.node)) me at_last.worker
            (changed_now c.workers me x at_last.worker at)

        lives_then : at_last.worker.is_live ≡ true
        lives_then = lives_on commits (λ P kept h p. M.commit_step-kept P kept h o p) at_first live

        needed_then : IsInStep s log_then whole_then → (y : Id) → needed_by at_last.worker.run ≡ Some y → IsBorn (births log_then) y
        needed_then after y needed = by_run at_last.worker.run refl needed
          where
            by_run : (r : Option Execution) → at_last.worker.run ≡ r → needed_by r ≡ Some y → IsBorn (births log_then) y
            by_run None e f = absurd (cc)
            by_run (Some next) e f = need_known s log_then whole_then after.sound.between me at_last.worker next there_then lives_then e y f

    commit_advance : IsInStep s log_then whole_then → Advances log c (Commit j) seat (worker_does (with_parts jobs_then born_then c.delivered) me commits)
    commit_advance after =
        let going : run.is_over ≡ false = out_going me x j run at is out in
        let final_run : attempt_by at_last.worker.run ≡ Some run.attempt = commit_steady at_first o run is in
        does_advance (Commit j) jobs_then born_then c.delivered me x at live node home commits (λ P kept h p. M.commit_step-kept P kept h o p)
        (λ q. commit_pays log_then c.network me x.objects (IsBrought c (Commit j)) (IsOf at_last.worker) at_first o run is going final_run (names after) q)
        (λ i v p m e. absurd (cc))
        (λ r f _. final_run ∙ ap (λ b. Some b) (ap (λ (q : Execution). q.attempt) (same_out run r (sym is ∙ f))))

  commit_advances : (j : ℕ) (handed : CommitInput) (g : Option JobRecord) → commit_refusal c j handed g ≡ None →
      IsInStep s (log ++ In (Commit j) seat ∷ (committed_by c j handed g).out.entries) (committed_by c j handed g).whole → Advances log c (Commit j) seat (committed_by c j handed g)
  commit_advances j handed None e after = absurd (cc)
  commit_advances j Nothing (Some g) e after = nothing_handed (is_out_by (worker_at c g.worker) j) (not g.is_committed) (unless (is_live_worker (worker_at c g.worker)) Stale) e
    where
      nothing_handed : (b d : Bool) (o : Option Refusal) → or_refusal (unless (d && false && b) NoJob) o ≡ None → Advances log c (Commit j) seat (moved c)
      nothing_handed b true o f = absurd (cc)
      nothing_handed b false o f = absurd (cc)
  commit_advances j OfAnother (Some g) e after = nothing_handed (is_out_by (worker_at c g.worker) j) (not g.is_committed) (unless (is_live_worker (worker_at c g.worker)) Stale) e
    where
      nothing_handed : (b d : Bool) (o : Option Refusal) → or_refusal (unless (d && false && b) NoJob) o ≡ None → Advances log c (Commit j) seat (moved c)
      nothing_handed b true o f = absurd (cc)
      nothing_handed b false o f = absurd (cc)
  commit_advances j (OfJob o) (Some g) e after =
      let open_job : Bool = not g.is_committed && is_of_job (OfJob o) in
      let both = both_passed (unless (open_job && is_out_by (worker_at c g.worker) j) NoJob) (unless (is_live_worker (worker_at c g.worker)) Stale) e in
      let out : is_out_by (worker_at c g.worker) j ≡ true =
      and_right open_job (is_out_by (worker_at c g.worker) j) (passed (open_job && is_out_by (worker_at c g.worker) j) NoJob both.0) in
      let x = live_there (worker_at c g.worker) (passed (is_live_worker (worker_at c g.worker)) Stale both.1) in
      let n = home_of g.worker x.worker x.at in
      let run : OutOf x.worker.run j = out_of x.worker.run j (ap (λ y. is_out_by y j) (sym x.at) ∙ out) in
      let d : ClusterState = with_committed c j (objects_made o.births) in
      let same : worker_does d g.worker (λ h. commit_step h o) ≡ after_worker d g.worker x.worker.node (release_step (commit_step (here d g.worker x.worker n.0) o)) =
      ap (worker_does_by d g.worker (λ h. commit_step h o)) x.at ∙ ap (worker_does_at d g.worker x.worker (λ h. commit_step h o)) n.1 in
      commit_advance j o g.worker x.worker x.at x.live n.0 n.1 run.run run.at run.out
      (subst (λ (m : Transition). IsInStep s (log ++ In (Commit j) seat ∷ m.out.entries) m.whole) same after)

  -- ---- deliveries

  module _ (i : ℕ) (from : Endpoint) (me : ℕ) (m : Message) (sent : item_at c.network i ≡ Some (envelope from (TheWorker me) m)) (delivered : List Bool)
      (x : Worker) (at : worker_at c me ≡ Some x) (live : x.is_live ≡ true) (node : Node) (home : node_at c x.node ≡ Some node) where
    abbrev hears : WorkerContext → WorkerContext
    hears h = reached h from m

    abbrev first_here : WorkerContext
    first_here = start log c (Deliver i) seat k c.jobs c.made delivered me x node at live hears

    abbrev last_here : WorkerContext
    last_here = final log c (Deliver i) seat k c.jobs c.made delivered me x node at live hears

    abbrev Pay : WorkerContext → Type 0
    Pay = Q log c (Deliver i) seat k c.jobs c.made delivered me x node at live hears

    abbrev pay_kept : R.IsKept Pay
    pay_kept = pays_kept (log ++ In (Deliver i) seat ∷ last_here.there.out.entries) c.network me x.objects (IsBrought c (Deliver i)) (IsOf last_here.worker)

    heard_pays : (w : ℕ) (n : Message) → from ≡ TheWorker w → m ≡ n → Pay first_here → R.IsHeard Pay pay_kept first_here w n
    heard_pays w (Push a spec) e f q = push_pays _ _ _ _ _ _ first_here a spec q
    heard_pays w (Finished a n rs) e f q = finish_pays _ _ _ _ _ _ first_here w a n rs (record {
      number = i;
      sender = w;
      owner = me;
      node = n;
      results = rs;
      worker = x;
      event = refl;
      sent = sent ∙ ap (λ p. Some (envelope p (TheWorker me) m)) e ∙ ap (λ g. Some (envelope (TheWorker w) (TheWorker me) g)) f;
      there = at;
      lives = live;
    }) q
    heard_pays w (FinishedAck a) e f q = tt
    heard_pays w (Failed a g) e f q = tt
    heard_pays w (Ask a t) e f q = tt
    heard_pays w (Give a t v) e f q = tt
    heard_pays w (Elsewhere a t n) e f q = tt
    heard_pays w (Wait a t) e f q = tt
    heard_pays w (Back a) e f q = tt
    heard_pays w (Where o) e f q = tt
    heard_pays w (At o number ns kept) e f q = tt
    heard_pays w (Gone o g) e f q = tt
    heard_pays w (Fetch o number) e f q = tt
    heard_pays w (CopyOf o number b) e f q = tt
    heard_pays w (Missing o number n) e f q = tt
    heard_pays w (Hold d o) e f q = tt
    heard_pays w (HoldAck d o) e f q = tt
    heard_pays w (Unhold d o why) e f q = tt

    heard_from_pays : (p : Endpoint) (n : Message) → from ≡ p → m ≡ n → Pay first_here → R.IsHeardFrom Pay pay_kept first_here p n
    heard_from_pays (TheWorker w) n e f q = heard_pays w n e f q
    heard_from_pays (TheNode w) n e f q = tt

    among_sent : (j : ℕ) (l : Envelope) → item_at c.network j ≡ Some l → Among l c.network
    among_sent zero l e = absurd (cc)
    among_sent (suc j) l e = (j, e)

    envelope_is : (v : ℕ) (o : Id) (n : Message) → ◌≡◌ {A = Option Envelope} (Some (envelope from (TheWorker me) m)) (Some (envelope (TheWorker v) (TheWorker o.owner) n)) →
        (from ≡ TheWorker v) × (o.owner ≡ me) × (n ≡ m)
    envelope_is v o n e =
        let f : envelope from (TheWorker me) m ≡ envelope (TheWorker v) (TheWorker o.owner) n = same_envelope _ _ e in
        (ap (λ (l : Envelope). l.sender) f, same_receiver me o.owner (ap (λ (l : Envelope). l.receiver) f), sym (ap (λ (l : Envelope). l.message) f))

    other_way : (v w : ℕ) → (w == v) ≡ false → (v == w) ≡ false
    other_way v w e = grind (arith, nat_tests)

    own_now : (o : Id) → o.owner ≡ me → (o.owner == me) ≡ true
    own_now o e = grind (arith, nat_tests)

    some_serial : (xs : List Object) (n : ℕ) (z : Object) → item_at xs n ≡ Some z → 1 ≤ n
    some_serial xs zero z e = absurd (cc)
    some_serial xs (suc n) z e = omega arith

    -- a released object has a fault or a content
    rests_there : (o : Id) → o.owner ≡ me → (z : Object) → item_at x.objects o.serial ≡ Some z → z.is_released ≡ true → z.fault ≡ None → is_some z.settled ≡ true
    rests_there o own z there released unfaulted = by_origin (origin_of p o x z each there)
      where
        p : Past
        p = past log before.sound.between.asked

        each : (n : ℕ) (w : Object) → item_at x.objects n ≡ Some w → KnowsObject (past log before.sound.between.asked) x (object_id o.owner n) w
        each n w i = (before.sound.between.knows.workers o.owner x (subst (λ v. worker_at c v ≡ Some x) (sym own) at) live).objects n w i

        same_item : (u v : Object) → ◌≡◌ {A = Option Object} (Some u) (Some v) → u ≡ v
        same_item u v e = cc

        -- it is released with its task, of which no attempt is under way then
        resting : (m : IsMadeBy (past log before.sound.between.asked) o x z) → is_pending_task m.task ≡ false
        resting m =
            let row = m.knows.rows m.place m.within in
            let same : row.object ≡ z = same_item row.object z (sym row.there ∙ ap (item_at x.objects) (sym m.serial) ∙ there) in
            let gone : m.knows.released ≡ true = sym row.is_released ∙ ap (λ (u : Object). u.is_released) same ∙ released in
            at_test (λ t. is_pending_task m.task ≡ t → t ≡ false) (is_pending_task m.task) (λ _ pending. absurd (differ m.knows.released gone (m.knows.kept pending))) (λ _ _. refl) refl

        by_origin : Origin (past log before.sound.between.asked) o x z → is_some z.settled ≡ true
        by_origin (OfPut k) = ap is_some k.settled
        by_origin (OfTask m) = ap is_some (m.result.rests (resting m) unfaulted).settled

    by_request : (v : ℕ) (o : Id) (n : Message) → from ≡ TheWorker v → o.owner ≡ me → n ≡ m → IsRequest o n → (z : Object) → item_at x.objects o.serial ≡ Some z →
        IsAwaited o.serial v (hears first_here).worker.objects
    by_request v o n endpoint own is (inl where_is) z there =
        let message : m ≡ Where o = sym is ∙ where_is in
        subst (λ p. IsAwaited o.serial v (reached first_here p m).worker.objects) (sym endpoint)
        (subst (λ q. IsAwaited o.serial v (reached first_here (TheWorker v) q).worker.objects) (sym message)
        (where_waits first_here v o z (ap (λ b. if b then own_object first_here o.serial else None) (own_now o own) ∙ there) (rests_there o own z there)
        (other_way v me (subst (λ w. (w == v) ≡ false) own (told_right (Where o) message).1))))
      where
        told_right : (q : Message) → m ≡ q → IsRightEnvelope log (envelope (TheWorker v) (TheWorker me) q)
        told_right q e = subst (λ u. IsRightEnvelope log (envelope (TheWorker v) (TheWorker me) u)) e (subst (λ p. IsRightEnvelope log (envelope p (TheWorker me) m)) endpoint (k.envelopes _ (among_sent i _ sent)))
    by_request v o n endpoint own is (inr (number, node_number, missing_is)) z there =
        let message : m ≡ Missing o number node_number = sym is ∙ missing_is in
        subst (λ p. IsAwaited o.serial v (reached first_here p m).worker.objects) (sym endpoint)
        (subst (λ q. IsAwaited o.serial v (reached first_here (TheWorker v) q).worker.objects) (sym message)
        (missing_waits first_here v o number node_number z (own_now o own) there (rests_there o own z there)
        (other_way v me (subst (λ w. (w == v) ≡ false) own (told_right (Missing o number node_number) message).1))))
      where
        told_right : (q : Message) → m ≡ q → IsRightEnvelope log (envelope (TheWorker v) (TheWorker me) q)
        told_right q e = subst (λ u. IsRightEnvelope log (envelope (TheWorker v) (TheWorker me) u)) e (subst (λ p. IsRightEnvelope log (envelope p (TheWorker me) m)) endpoint (k.envelopes _ (among_sent i _ sent)))

    asks_here : (j v : ℕ) (o : Id) (n : Message) → Deliver i ≡ Deliver j → item_at c.network j ≡ Some (envelope (TheWorker v) (TheWorker o.owner) n) → IsRequest o n →
        (o.owner ≡ me) × ((z : Object) → item_at last_here.worker.objects o.serial ≡ Some z → IsAwaitedBy v z)
    asks_here j v o n same_event there request =
        let number : i ≡ j = cc in
        let sent_so : item_at c.network i ≡ Some (envelope (TheWorker v) (TheWorker o.owner) n) = subst (λ q. item_at c.network q ≡ Some (envelope (TheWorker v) (TheWorker o.owner) n)) (sym number) there in
        let parts = envelope_is v o n (sym sent ∙ sent_so) in (
          parts.1,
          λ z item.
              let born : IsBorn (births log) o = request_born s log c before.sound.between k v o.owner o n (among_sent i _ sent_so) request in
              let old = owner_has s log c before.sound.between o born x (subst (λ w. worker_at c w ≡ Some x) (sym parts.1) at) live (some_serial last_here.worker.objects o.serial z item) in
              let now : IsAwaited o.serial v (hears first_here).worker.objects = by_request v o n parts.0 parts.1 parts.2 request old.0 old.1 in
              let then_so : IsAwaited o.serial v last_here.worker.objects = still_awaited o.serial v (hears first_here).worker.objects last_here.worker.objects
              (steady_end (hears first_here) (hears first_here) (steady_start (hears first_here))).grows now in
              let same : then_so.object ≡ z = same_object then_so.object z (sym then_so.there ∙ item) in
              subst (IsAwaitedBy v) same then_so.waits,
        )
      where
        same_object : (p q : Object) → ◌≡◌ {A = Option Object} (Some p) (Some q) → p ≡ q
        same_object p q e = cc

    envelope_advance : Advances log c (Deliver i) seat (worker_does (with_parts c.jobs c.made delivered) me hears)
    envelope_advance =
        does_advance (Deliver i) c.jobs c.made delivered me x at live node home hears (λ P kept h p. M.reached-kept P kept h from m p)
        (λ q. reached-kept Pay pay_kept first_here from m (heard_from_pays from m refl refl q) tt q) asks_here
        (λ run is going. (reached_steady first_here run is going from m).attempt ∙ ap attempt_by is)

  -- ---- events of no worker

  nothing_advances : (e : Event) (d : ClusterState) → d.network ≡ c.network → LeavesWorkers c d →
      ((i v : ℕ) (o : Id) (n : Message) (x : Worker) → e ≡ Deliver i → item_at c.network i ≡ Some (envelope (TheWorker v) (TheWorker o.owner) n) → worker_at c o.owner ≡ Some x → x.is_live ≡ true → ⊥) →
      Advances log c e seat (moved d)
  nothing_advances e d network leaves unheard =
      quiet_advances log c e seat (moved d) k (network ∙ sym (append-nil c.network)) (λ l i. absurd (among-nothing l i)) (λ a b i. among-nothing _ i) (λ a i. among-nothing _ i) leaves unheard

  all_left : LeavesWorkers c c
  all_left = record {
    back = λ w y at. inl (record { worker = y; there = at; lived = λ e. e; run = refl; objects = refl });
    forth = λ w x at. (x, at, refl);
  }

  -- a node's step, beside workers that are left
  node_advances : (e : Event) (d : ClusterState) (n : ℕ) (f : NodeContext → NodeContext) → d.network ≡ c.network → LeavesWorkers c d → ((t : NodeContext) → IsOfNode t → IsOfNode (f t)) →
      ((i v : ℕ) (o : Id) (m : Message) (x : Worker) → e ≡ Deliver i → item_at c.network i ≡ Some (envelope (TheWorker v) (TheWorker o.owner) m) → worker_at c o.owner ≡ Some x → x.is_live ≡ true → ⊥) →
      Advances log c e seat (node_does d n f)
  node_advances e d n f network leaves keeps unheard = by_node (node_at d n)
    where
      by_node : (o : Option Node) → Advances log c e seat (node_does_by d n f o)
      by_node None = nothing_advances e d network leaves unheard
      by_node (Some node) =
          let t : NodeContext = f (there d n node) in
          let of_node : IsOfNode t = keeps (there d n node) (record { envelopes = λ l i. absurd (among-nothing l i); endless = λ a b i. among-nothing _ i; accepts_none = λ a i. among-nothing _ i }) in
          quiet_advances log c e seat (after_node d n t) k (ap (λ ls. ls ++ t.out.envelopes) network) of_node.envelopes of_node.endless of_node.accepts_none (record {
            back = λ w y at. elim (append_split d.workers (repeated t.opened (new_worker n)) w y at) [
              | inl g ↦ leaves.back w y g
              | inr (_, (i, g)) ↦ inr (n, one_of i t.opened w (new_worker n) y g)
            ];
            forth = λ w x at. let r = leaves.forth w x at in (r.0, there_more d.workers (repeated t.opened (new_worker n)) w r.0 r.1, r.2);
          }) unheard

  -- the workers are the same, but for deaths
  dead_left : (w : ℕ) → LeavesWorkers c (record c { workers = changed_at c.workers w dead })
  dead_left w = record {
    back = λ v y at. elim (changed_cases c.workers w v dead y at) [
      | inl (_, x, was, is) ↦ inl (record { worker = x; there = was; lived = λ live. absurd (dead_lives x y is live); run = ap (λ (z : Worker). z.run) is; objects = ap (λ (z : Worker). z.objects) is })
      | inr (_, was) ↦ inl (record { worker = y; there = was; lived = λ live. live; run = refl; objects = refl })
    ];
    forth = λ v x was.
        let y = there_still c.workers w v dead x was in (
          y.0,
          y.1,
          elim (changed_cases c.workers w v dead y.0 y.1) [
            | inl (_, z, old, is) ↦ ap (λ (u : Worker). u.run) is ∙ ap (λ (u : Worker). u.run) (same_one z x (sym old ∙ was))
            | inr (_, old) ↦ ap (λ (u : Worker). u.run) (same_one y.0 x (sym old ∙ was))
          ],
        );
  }
    where
      dead_lives : (x y : Worker) → y ≡ dead x → y.is_live ≡ true → ⊥
      dead_lives x y is live = let f : y.is_live ≡ false = ap (λ (z : Worker). z.is_live) is in cc

      same_one : (p q : Worker) → ◌≡◌ {A = Option Worker} (Some p) (Some q) → p ≡ q
      same_one p q e = cc

  mapped_left : (n : ℕ) (d : ClusterState) → d.workers ≡ map (dies_with n) c.workers → LeavesWorkers c d
  mapped_left n d workers = record {
    back = λ w y at.
        let r = item_mapped (dies_with n) c.workers w y (ap (λ xs. item_at xs w) (sym workers) ∙ at) in
        inl (record { worker = r.0; there = r.1; lived = λ live. lived r.0 y r.2 live; run = ap (λ (z : Worker). z.run) r.2 ∙ dies-run r.0; objects = ap (λ (z : Worker). z.objects) r.2 ∙ dies-objects r.0 });
    forth = λ w x at. (dies_with n x, ap (λ xs. item_at xs w) workers ∙ item_map (dies_with n) c.workers w x at, dies-run x);
  }
    where
      dies-run : (x : Worker) → (dies_with n x).run ≡ x.run
      dies-run x = at_test (λ b. (if b then dead x else x).run ≡ x.run) (x.node == n) (λ _. refl) (λ _. refl)

      dies-objects : (x : Worker) → (dies_with n x).objects ≡ x.objects
      dies-objects x = at_test (λ b. (if b then dead x else x).objects ≡ x.objects) (x.node == n) (λ _. refl) (λ _. refl)

      lived : (x y : Worker) → y ≡ dies_with n x → y.is_live ≡ true → x.is_live ≡ true
      lived x y is live = at_test (λ b. y ≡ (if b then dead x else x) → x.is_live ≡ true) (x.node == n)
          (λ _ f. let g : y.is_live ≡ false = ap (λ (z : Worker). z.is_live) f in absurd (cc)) (λ _ f. ap (λ (z : Worker). z.is_live) (sym f) ∙ live) is

  same_left : (d : ClusterState) → d.workers ≡ c.workers → LeavesWorkers c d
  same_left d workers = record {
    back = λ w y at. inl (record { worker = y; there = ap (λ xs. item_at xs w) (sym workers) ∙ at; lived = λ e. e; run = refl; objects = refl });
    forth = λ w x at. (x, ap (λ xs. item_at xs w) workers ∙ at, refl);
  }

  kill_advances : (w : ℕ) (o : Option Worker) → Advances log c (Kill w) seat (killed_by c w o)
  kill_advances w None = nothing_advances (Kill w) c refl all_left (λ i v o n x is. absurd (cc))
  kill_advances w (Some x) =
      node_advances (Kill w) (record c { workers = changed_at c.workers w dead }) x.node (λ h. forgets h w) refl (dead_left w)
      (λ t o. forgets-kept IsOfNode of_node_kept t w o) (λ i v o n y is. absurd (cc))

  delivered_advances : (i : ℕ) (l : Envelope) → item_at c.network i ≡ Some l → (to : Endpoint) → l.receiver ≡ to → Advances log c (Deliver i) seat (delivered_to (with_delivered c i) l to)
  delivered_advances i l sent (TheWorker w) to =
      at_test (λ b. is_live_worker (worker_at c w) ≡ b → Advances log c (Deliver i) seat
      (if b then worker_does (with_delivered c i) w (λ h. reached h l.sender l.message) else moved (with_delivered c i))) (is_live_worker (worker_at c w))
      (λ _ lives.
      let x = live_there (worker_at c w) lives in
      let n = home_of w x.worker x.at in
      envelope_advance i l.sender w l.message (sent ∙ ap (λ p. Some (envelope l.sender p l.message)) to) (with_delivered c i).delivered x.worker x.at x.live n.0 n.1)
      (λ _ gone. nothing_advances (Deliver i) (with_delivered c i) refl (same_left (with_delivered c i) refl)
      (λ j v o n x is there at live. dead_asked j v o n x is there at live gone)) refl
    where
      dead_asked : (j v : ℕ) (o : Id) (n : Message) (x : Worker) → Deliver i ≡ Deliver j → item_at c.network j ≡ Some (envelope (TheWorker v) (TheWorker o.owner) n) →
          worker_at c o.owner ≡ Some x → x.is_live ≡ true → is_live_worker (worker_at c w) ≡ false → ⊥
      dead_asked j v o n x is there at live gone =
          let number : i ≡ j = cc in
          let f : l ≡ envelope (TheWorker v) (TheWorker o.owner) n = same_envelope l _ (sym sent ∙ subst (λ q. item_at c.network q ≡ Some (envelope (TheWorker v) (TheWorker o.owner) n)) (sym number) there) in
          let own : o.owner ≡ w = same_receiver w o.owner (sym to ∙ ap (λ (q : Envelope). q.receiver) f) in
          let alive : is_live_worker (worker_at c w) ≡ true = ap is_live_worker (subst (λ q. worker_at c q ≡ Some x) own at) ∙ live in
          cc
  delivered_advances i l sent (TheNode n) to =
      at_test (λ b. Advances log c (Deliver i) seat (if b then node_does (with_delivered c i) n (λ h. node_reached h l.sender l.message) else moved (with_delivered c i)))
      (is_live_node (node_at c n))
      (λ _. node_advances (Deliver i) (with_delivered c i) n (λ h. node_reached h l.sender l.message) refl (same_left (with_delivered c i) refl)
      (λ t o. node_reached-kept IsOfNode of_node_kept t l.sender l.message o) (λ j v o m x is there _ _. to_worker j v o m is there))
      (λ _. nothing_advances (Deliver i) (with_delivered c i) refl (same_left (with_delivered c i) refl) (λ j v o m x is there _ _. to_worker j v o m is there))
    where
      to_worker : (j v : ℕ) (o : Id) (m : Message) → Deliver i ≡ Deliver j → item_at c.network j ≡ Some (envelope (TheWorker v) (TheWorker o.owner) m) → ⊥
      to_worker j v o m is there =
          let number : i ≡ j = cc in
          let f : l ≡ envelope (TheWorker v) (TheWorker o.owner) m = same_envelope l _ (sym sent ∙ subst (λ q. item_at c.network q ≡ Some (envelope (TheWorker v) (TheWorker o.owner) m)) (sym number) there) in
          let g : TheNode n ≡ TheWorker o.owner = sym to ∙ ap (λ (q : Envelope). q.receiver) f in
          absurd (cc)

  deliver_advances : (i : ℕ) (o : Option Envelope) → item_at c.network i ≡ o → Advances log c (Deliver i) seat (delivered_by c i o)
  deliver_advances i None at = nothing_advances (Deliver i) c refl all_left (λ j v o n x is there _ _. none_there j v o n is there)
    where
      none_there : (j v : ℕ) (o : Id) (n : Message) → Deliver i ≡ Deliver j → item_at c.network j ≡ Some (envelope (TheWorker v) (TheWorker o.owner) n) → ⊥
      none_there j v o n is there = let number : i ≡ j = cc in let f = ap (item_at c.network) number in cc
  deliver_advances i (Some l) at = delivered_advances i l at l.receiver refl

  -- every event
  pub event_advances : (e : Event) (handed : CommitInput) → refusal c e handed ≡ None → IsInStep s (log ++ In e seat ∷ (happens c e handed).out.entries) (happens c e handed).whole →
      Advances log c e seat (happens c e handed)
  event_advances (Claim w) handed e after = claim_advances w e
  event_advances (Commit j) handed e after = commit_advances j handed (item_at c.jobs j) e after
  event_advances (Deliver i) handed e after = deliver_advances i (item_at c.network i) refl
  event_advances (Tick w) handed e after = tick_advances w e
  event_advances (Notice w v) handed e after = notice_advances w v e
  event_advances (NoticeNode w n) handed e after = notice_node_advances w n e
  event_advances (Evict n o) handed e after = nothing_advances (Evict n o) _ refl (same_left _ refl) (λ i v p m x is. absurd (cc))
  event_advances (Lose n o) handed e after = nothing_advances (Lose n o) _ refl (same_left _ refl) (λ i v p m x is. absurd (cc))
  event_advances (Kill w) handed e after = kill_advances w (worker_at c w)
  event_advances (KillNode n) handed e after = nothing_advances (KillNode n) _ refl (mapped_left n _ refl) (λ i v p m x is. absurd (cc))
  event_advances Join handed e after = nothing_advances Join _ refl (same_left _ refl) (λ i v p m x is. absurd (cc))

  sent_before : (e : Event) (handed : CommitInput) → refusal c e handed ≡ None → (i : ℕ) → e ≡ Deliver i → (l : Envelope) × (item_at c.network i ≡ Some l)
  sent_before (Deliver j) handed e i is = let same : j ≡ i = cc in by_envelope (item_at c.network i) refl (subst (λ q. unless (is_some (item_at c.network q)) NoMessage ≡ None) same e)
    where
      by_envelope : (o : Option Envelope) → item_at c.network i ≡ o → unless (is_some o) NoMessage ≡ None → (l : Envelope) × (item_at c.network i ≡ Some l)
      by_envelope None f g = absurd (cc)
      by_envelope (Some l) f g = (l, f)
  sent_before (Claim w) handed e i is = absurd (cc)
  sent_before (Commit j) handed e i is = absurd (cc)
  sent_before (Tick w) handed e i is = absurd (cc)
  sent_before (Notice w v) handed e i is = absurd (cc)
  sent_before (NoticeNode w n) handed e i is = absurd (cc)
  sent_before (Evict n o) handed e i is = absurd (cc)
  sent_before (Lose n o) handed e i is = absurd (cc)
  sent_before (Kill w) handed e i is = absurd (cc)
  sent_before (KillNode n) handed e i is = absurd (cc)
  sent_before Join handed e i is = absurd (cc)

  pub happens_keeps : (e : Event) (handed : CommitInput) → refusal c e handed ≡ None → IsInStep s (log ++ In e seat ∷ (happens c e handed).out.entries) (happens c e handed).whole →
      KeepsReplies (log ++ In e seat ∷ (happens c e handed).out.entries) (happens c e handed).whole
  happens_keeps e handed unrefused after =
      let m : Transition = happens c e handed in
      let q = (happens-counted c e handed).quiet in
      let accepted : accepted_events (log ++ In e seat ∷ m.out.entries) ≡ accepted_events log ++ e ∷ [] =
      accepted-event log e seat m.out.entries (no_event m.out.entries q) ∙ ap (λ b. accepted_events log ++ (if b then [] else e ∷ [])) (not_refused m.out.entries q) in
      advanced s log c e seat m before after k (sent_before e handed unrefused) accepted (event_advances e handed unrefused after)

-- The events of a worker, one by one: claims, commits, deliveries, ticks and notices keep what is true of Pushes and Holds.
use Rattle.protocol.specs.Steps.{WorkerContext, logs, with_phase, with_task_of, with_worker}
use Rattle.meaning.specs.Births.{birth_at}
use Rattle.meaning.specs.Values.{Birth, Id, main_birth, others_of, Outcome, results_of}
use Rattle.meaning.proofs.BirthLaws.{at_test, is_made, same_id-refl}
use Rattle.event_log.specs.Words.{births, born_in, next_serial, same_attempt}
use Rattle.event_log.specs.Entries.{Accepted, Attempt, Deliver, Ended, Entry, Event, In, main_attempt, main_object}
use Rattle.event_log.proofs.Extending.{births-more}
use Rattle.protocol.specs.Asking.{rests}
use Rattle.protocol.specs.Ends.{finished_reached, settles}
use Rattle.protocol.specs.Sets.{object_id}
use Rattle.protocol.specs.Tables.{has_stopped, Holding, new_run, Object, Out, Execution, Worker}
use Rattle.smallest_steps.proofs.Over.{settles-kept}
use Rattle.std.proofs.Common.{[], ap, append-nil, arith, inl, inr, length, List, None, Option, refl, Some, subst, suc, sym, zero, ℕ, ◌++◌, ◌+◌, ◌<◌, ◌∙◌, ◌∷◌}
use Rattle.std.proofs.Common.{◌≡◌, ◌≤◌}
use Rattle.std.specs.List.{flat_map}
use Rattle.std.specs.Prelude.{Bool, false, if◌then◌else◌, true}
use Rattle.std.proofs.lemmas.Bool.{both_ways}
use Rattle.sequence.proofs.Places.{list_any-push_cases}
use Rattle.meaning.specs.Readings.{IsBorn}
use Rattle.event_log.specs.Commits.{commit_entries}
use Rattle.event_log.specs.Breaks.{Among}
use Rattle.event_log.specs.Events.{accepted_events}
use Rattle.event_log.specs.Holding.{HasId, InBirth, InContents}
use Rattle.event_log.specs.Rules.{Setting}
use Rattle.event_log.specs.Sane.{Sane}
use Rattle.event_log.proofs.SaneLaws.{legal_logs_are_sane}
use Rattle.event_log.proofs.WordLaws.{same_attempt-true}
use Rattle.protocol.specs.Commits.{claim_by, claim_step, commit_step, next_id_here}
use Rattle.protocol.specs.Deliveries.{reached}
use Rattle.protocol.specs.Holders.{hold_ack_reached, holding}
use Rattle.protocol.specs.Jobs.{AtEnd, JobRecord, Outcomes, stop_of}
use Rattle.protocol.specs.Messages.{EndedResult, Hold, HoldAck, Envelope, envelope, Message, Endpoint, Push, TheNode, TheWorker}
use Rattle.protocol.specs.Nodes.{Node}
use Rattle.protocol.specs.Numbered.{changed_at, item_at}
use Rattle.protocol.specs.Releases.{release_step}
use Rattle.protocol.specs.Runs.{begins_run, is_free, tells_stop}
use Rattle.protocol.specs.Notices.{is_unheard}
use Rattle.protocol.specs.Ticks.{asks_again, sends_holds, sends_run, sends_tasks, tick_step}
use Rattle.protocol.specs.Cluster.{Transition, ClusterState, here, node_at, worker_at}
use Rattle.owed_asks.specs.of_protocol_legal.Knows.{GoesOn, KnowsPhase, KnowsRun, KnowsWorker}
use Rattle.owed_asks.specs.of_protocol_legal.Past.{past}
use Rattle.owed_asks.specs.of_protocol_legal.Says.{IsPushed, Says}
use Rattle.owed_asks.specs.of_protocol_legal.Whole.{Between, setting_of}
use Rattle.protocol_owed.specs.Courses.{has_begun}
use Rattle.protocol_owed.proofs.Envelopes.{among-append_cases, among-behind, among-nothing}
use Rattle.protocol_owed.proofs.Nodes.{there_more}
use Rattle.smallest_steps.proofs.Untouched.{asks_again-worker, sends_holds-worker, sends_tasks-worker, tells_stop-worker}
use Rattle.owed_asks.specs.of_lease_discipline.Told.{IsInStep}
use Rattle.owed_asks.proofs.of_lease_discipline.Events.{among_at}
use Rattle.owed_asks.proofs.of_lease_discipline.Heres.{changed_now}
use Rattle.owed_asks.proofs.of_lease_discipline.Laws.{pushes_find_free}
use Rattle.owed_replies.specs.Kept.{KeepsReplies}
use Rattle.owed_replies.proofs.Advancing.{all_among, end_among}
use Rattle.owed_replies.proofs.Committing.{release_step-run}
use Rattle.owed_replies.proofs.Happens.{committed_logged, end_logged}
use Rattle.owed_replies.proofs.Moves as R
use Rattle.owed_replies.proofs.Moves.{IsKeptWhere, release_step-kept}
use Rattle.owed_replies.proofs.Quiet.{all_live}
use Rattle.owed_laws.proofs.HoldCommits as C
use Rattle.owed_laws.proofs.HoldEvents as E
use Rattle.owed_laws.proofs.HoldEvents.{HasEnd, IsBelow, IsPartOfTask, KeepsHolds, RunKeeps, below_more, push_by}
use Rattle.owed_laws.proofs.HoldFacts.{ends_with_all, IsFirst, first_behind, is_push, is_push_of, push_is}
use Rattle.owed_laws.proofs.HoldHappens as V
use Rattle.owed_laws.proofs.HoldHappens.{NotWaiting, acked_waits, waits_kept}
use Rattle.owed_laws.proofs.HoldMoves as H
use Rattle.owed_laws.proofs.HoldMoves.{RunHolds, ack_of, item_within}
use Rattle.owed_laws.proofs.Speaking as P
use Rattle.owed_laws.proofs.Speaking.{Speaks, speaks_kept}

some_run : (x y : Execution) → ◌≡◌ {A = Option Execution} (Some x) (Some y) → x ≡ y
some_run x y e = cc

-- a tick leaves the worker as it is
sends_run-worker : (h : WorkerContext) (r : Option Execution) → (sends_run h r).worker ≡ h.worker
sends_run-worker h None = refl
sends_run-worker h (Some run) =
    let again : WorkerContext = asks_again h run.phase in
    let held : WorkerContext = sends_holds again run.holds in
    at_test (λ t. (if t then tells_stop held run run.phase else held).worker ≡ held.worker) (is_unheard run) (λ _. tells_stop-worker held run run.phase) (λ _. refl) ∙
    sends_holds-worker again run.holds ∙ asks_again-worker h run.phase

tick-worker : (h : WorkerContext) → (tick_step h).worker ≡ h.worker
tick-worker h = sends_run-worker (sends_tasks h) h.worker.run ∙ sends_tasks-worker h

-- an acknowledgement of a Hold
abbrev pub is_ack : Message → Bool
is_ack (HoldAck e o) = true
is_ack _ = false

module _ (s : Setting) (log : List Entry) (c : ClusterState) (step : IsInStep s log c) (replies : KeepsReplies log c) (k : KeepsHolds log c) (seat : ℕ) where
  abbrev pub After : Event → Transition → Type 0
  After e m = V.After s log c step replies k seat e m

  abbrev pub Goes : (e : Event) (m : Transition) → After e m → Type 0
  Goes e m a = V.Goes s log c step replies k seat e m a

  abbrev b : Between s log c
  b = step.sound.between

  module _ (e : Event) (jobs : List JobRecord) (made : ℕ) (delivered : List Bool) (me : ℕ) (x : Worker) (at : worker_at c me ≡ Some x) (live : x.is_live ≡ true)
      (node : Node) (home : node_at c x.node ≡ Some node) where
    abbrev pub start : WorkerContext
    start = V.start s log c step replies k seat e jobs made delivered me x at live node home (here (record c { jobs = jobs; made = made; delivered = delivered }) me x node)

    abbrev pub Done : WorkerContext → Transition
    Done g = V.done s log c step replies k seat e jobs made delivered me x at live node home g

    abbrev RunsAs : (g : WorkerContext) (r : Execution) → x.run ≡ Some r → WorkerContext → Type 0
    RunsAs g r is h = V.RunsAs s log c step replies k seat e jobs made delivered me x at live node home g r is h

    abbrev IdlesAs : (g : WorkerContext) → WorkerContext → Type 0
    IdlesAs g h = V.IdlesAs s log c step replies k seat e jobs made delivered me x at live node home g h

    start_speaks : (X Y : Type 0) → Speaks X Y me start
    start_speaks X Y = V.start_speaks s log c step replies k seat e jobs made delivered me x at live node home start X Y

    says_none : (g : WorkerContext) → Speaks ⊥ (Unit {0}) me g → (v : ℕ) (f o : Id) → Among (envelope (TheWorker me) (TheWorker v) (Hold f o)) (release_step g).there.out.envelopes → ⊥
    says_none g p v f o i = (release_step-kept (Speaks ⊥ (Unit {0}) me) (speaks_kept ⊥ (Unit {0}) me) g p).said v (Hold f o) i

    abbrev pub ToMe : Type 0
    ToMe = (n w : ℕ) (from : Endpoint) (l : Message) → e ≡ Deliver n → item_at c.network n ≡ Some (envelope from (TheWorker w) l) → w ≡ me

    abbrev pub Unheard : WorkerContext → Type 0
    Unheard g = (run : Execution) → (release_step g).worker.run ≡ Some run → (j : Holding) → Among j run.holds → (n : ℕ) → e ≡ Deliver n →
        item_at c.network n ≡ Some (ack_of me j) → ⊥

    -- a step that begins and commits nothing, and says no Hold
    pub plain_goes : (g : WorkerContext) → ((X : Type 0) (Q : WorkerContext → Type 0) → IsKeptWhere X (Unit {0}) Q → Q start → Q g) → (a : After e (Done g)) → ToMe → Unheard g → Goes e (Done g) a
    plain_goes g kept a to_me unheard =
        V.goes_on s log c step replies k seat e jobs made delivered me x at live node home g a to_me
        (λ r is. kept (Unit {0}) (RunsAs g r is) (H.holds_kept _ _ _ _ _ _ _ _ _ _) (V.start_runs s log c step replies k seat e jobs made delivered me x at live node home g r is))
        (λ is. kept (Unit {0}) (IdlesAs g) (H.holds_kept _ _ _ _ _ _ _ _ _ _) (V.start_idles s log c step replies k seat e jobs made delivered me x at live node home g is))
        unheard (kept (Unit {0}) (Speaks (Unit {0}) (Unit {0}) me) (speaks_kept (Unit {0}) (Unit {0}) me) (start_speaks (Unit {0}) (Unit {0})))
        (λ u v d spec f o part i pushed unbegun. says_none g (kept ⊥ (Speaks ⊥ (Unit {0}) me) (speaks_kept ⊥ (Unit {0}) me) (start_speaks ⊥ (Unit {0}))) v f o i)

    -- ---- a tick

    over_said : (r : Execution) → x.run ≡ Some r → r.is_over ≡ true → (v : ℕ) (f o : Id) →
        Among (envelope (TheWorker me) (TheWorker v) (Hold f o)) (release_step (tick_step start)).there.out.envelopes → ⊥
    over_said r is over v f o i =
        says_none (tick_step start) (P.quiet_tick ⊥ (Unit {0}) me tt start r is ((k.runs me x r at is).holds.over over) (start_speaks ⊥ (Unit {0}))) v f o i

    tick_same : (release_step (tick_step start)).worker.run ≡ x.run
    tick_same = release_step-run (tick_step start) ∙ ap (λ (y : Worker). y.run) (tick-worker start)

    pub tick_goes : (a : After e (Done (tick_step start))) → ToMe → ((n : ℕ) → e ≡ Deliver n → ⊥) → Goes e (Done (tick_step start)) a
    tick_goes a to_me no_envelope =
        let g : WorkerContext = tick_step start in
        V.goes_on s log c step replies k seat e jobs made delivered me x at live node home g a to_me
        (λ r is. R.tick_step-kept (RunsAs g r is) (H.holds_kept _ _ _ _ _ _ _ _ _ _) start tt tt
        (V.start_runs s log c step replies k seat e jobs made delivered me x at live node home g r is))
        (λ is. R.tick_step-kept (IdlesAs g) (H.holds_kept _ _ _ _ _ _ _ _ _ _) start tt tt
        (V.start_idles s log c step replies k seat e jobs made delivered me x at live node home g is))
        (λ run i j there n is ack. no_envelope n is)
        (R.tick_step-kept (Speaks (Unit {0}) (Unit {0}) me) (speaks_kept (Unit {0}) (Unit {0}) me) start tt tt (start_speaks (Unit {0}) (Unit {0})))
        (λ u v d spec f o part i pushed unbegun. by_run v f o i (free a u d spec pushed unbegun) x.run refl)
      where
        there_now : (a : After e (Done (tick_step start))) → worker_at (Done (tick_step start)).whole me ≡ Some (release_step (tick_step start)).worker
        there_now a = there_more (changed_at c.workers me (λ _. (release_step (tick_step start)).worker)) _ me (release_step (tick_step start)).worker
            (changed_now c.workers me x (release_step (tick_step start)).worker at)

        free : (a : After e (Done (tick_step start))) (u : ℕ) (d : Attempt) (spec : Birth) → Among (push_by u me d spec) (Done (tick_step start)).whole.network →
            has_begun d (release_step (tick_step start)).worker.began ≡ false → is_free x.run ≡ true
        free a u d spec pushed unbegun =
            ap is_free (sym tick_same) ∙ pushes_find_free (Done (tick_step start)).whole a.after.leases (suc pushed.0) me (TheWorker u) d spec
            (release_step (tick_step start)).worker pushed.1 (there_now a)
            (all_live s (log ++ In e seat ∷ (Done (tick_step start)).out.entries) (Done (tick_step start)).whole a.after.sound.between a.calm me
            (release_step (tick_step start)).worker (there_now a)) unbegun

        by_run : (v : ℕ) (d o : Id) → Among (envelope (TheWorker me) (TheWorker v) (Hold d o)) (release_step (tick_step start)).there.out.envelopes →
            is_free x.run ≡ true → (r : Option Execution) → x.run ≡ r → ⊥
        by_run v d o i f None is = says_none (tick_step start) (P.idle_tick ⊥ (Unit {0}) me tt start is (start_speaks ⊥ (Unit {0}))) v d o i
        by_run v d o i f (Some r) is = over_said r is (ap is_free (sym is) ∙ f) v d o i

    -- ---- a claim

    pub claim_goes : (j : ℕ) (a : After e (Done (claim_step start j))) → ToMe → ((n : ℕ) → e ≡ Deliver n → ⊥) → Goes e (Done (claim_step start j)) a
    claim_goes j a to_me no_envelope =
        let g : WorkerContext = claim_step start j in
        V.goes_on s log c step replies k seat e jobs made delivered me x at live node home g a to_me
        (λ r is. subst (λ o. RunsAs g r is (claim_by start j o)) (sym is)
        (H.still_holds _ _ _ _ _ _ _ _ _ _ start r (record r { phase = Out j }) is refl refl refl refl
        (V.start_runs s log c step replies k seat e jobs made delivered me x at live node home g r is)))
        (λ is. subst (λ o. IdlesAs g (claim_by start j o)) (sym is) (V.start_idles s log c step replies k seat e jobs made delivered me x at live node home g is))
        (λ run i l there n is ack. no_envelope n is) (by_run (Unit {0}) x.run)
        (λ u v d spec f o part i pushed unbegun. says_none g (by_run ⊥ x.run) v f o i)
      where
        by_run : (X : Type 0) (r : Option Execution) → Speaks X (Unit {0}) me (claim_by start j r)
        by_run X None = start_speaks X (Unit {0})
        by_run X (Some r) = P.quietly X (Unit {0}) me start (with_phase start r (Out j)) refl refl (start_speaks X (Unit {0}))

    -- ---- a commit

    module _ (d : Outcomes) (j : ℕ) (r : Execution) (is : x.run ≡ Some r) (out : r.phase ≡ Out j) where
      abbrev g : WorkerContext
      g = commit_step start d

      abbrev later : List Entry
      later = log ++ In e seat ∷ (release_step g).there.out.entries

      abbrev old : RunKeeps log c.network (accepted_events log) me x r
      old = k.runs me x r at is

      knows : KnowsWorker (setting_of s c) (past log b.asked) me x
      knows = b.knows.workers me x at live

      knows_run : KnowsRun (setting_of s c) log me x r
      knows_run = knows.run r is

      goes : GoesOn log x r
      goes = subst (KnowsPhase (setting_of s c) log x r) out knows_run.phase

      not_over : r.is_over ≡ true → ⊥
      not_over over = let f : has_stopped (Out j) ≡ true = ap has_stopped (sym out) ∙ knows_run.over over in absurd (cc)

      going_on : r.is_over ≡ false
      going_on = by_flag r.is_over refl
        where
          by_flag : (t : Bool) → r.is_over ≡ t → r.is_over ≡ false
          by_flag true f = absurd (not_over f)
          by_flag false f = f

      sane : Sane log
      sane = legal_logs_are_sane (setting_of s c) log b.legal

      -- whoever holds was born
      holder_born : (f z : Id) → HasId log f z → IsBorn (births log) f
      holder_born f z (InBirth part born i) = (part, born)
      holder_born f z (InContents part number cs born ended i) = (part, born)

      young : (i v : ℕ) (f o : Id) → item_at (c.network ++ []) i ≡ Some (envelope (TheWorker me) (TheWorker v) (Hold f o)) → f.owner ≡ me → f.serial < length x.objects + 1
      young i v f o said own =
          let there : Among (envelope (TheWorker me) (TheWorker v) (Hold f o)) c.network = among_at c.network i (envelope (TheWorker me) (TheWorker v) (Hold f o))
          (ap (λ ls. item_at ls i) (sym (append-nil c.network)) ∙ said) in
          let true_it : HasId log f o = all_among (Says (past log b.asked)) c.network (envelope (TheWorker me) (TheWorker v) (Hold f o)) b.knows.told there in
          let born = holder_born f o true_it in
          let below = sane.serials f born in
          let same : next_serial f.owner (births log) ≡ length x.objects + 1 = ap (λ w. next_serial w (births log)) own ∙ knows.serial in
          omega (arith, below, same)

      no_end : HasEnd log r.attempt → ⊥
      no_end (content, i) = among-nothing content (subst (λ xs. Among content xs) goes.ended (end_among log r.attempt content i))

      same_birth : (p q : Birth) → ◌≡◌ {A = Option Birth} (Some p) (Some q) → p ≡ q
      same_birth p q f = cc

      pushed_spec : (p u : ℕ) (spec : Birth) → item_at c.network p ≡ Some (push_by u me r.attempt spec) → spec ≡ r.spec
      pushed_spec p u spec pushed =
          let says : IsPushed log r.attempt spec me = all_among (Says (past log b.asked)) c.network (push_by u me r.attempt spec) b.knows.told
          (among_at c.network p (push_by u me r.attempt spec) pushed) in
          same_birth spec r.spec (sym says.born ∙ knows_run.spec)

      unsaid : same_attempt r.attempt main_attempt ≡ false → (f : Id) → IsPartOfTask r.attempt r.spec f → (o : Id) (i v : ℕ) → old.place < i →
          item_at (c.network ++ []) i ≡ Some (envelope (TheWorker me) (TheWorker v) (Hold f o)) → ⊥
      unsaid other f part o i v far said =
          let q = old.pushed other in
          let same : q.0 ≡ r.spec = pushed_spec old.place r.attempt.object.owner q.0 q.1 in
          no_end (k.behind old.place i r.attempt.object.owner me v r.attempt q.0 f o (subst (λ d. IsPartOfTask r.attempt d f) (sym same) part) far q.1
          (ap (λ ls. item_at ls i) (sym (append-nil c.network)) ∙ said))

      among_end : (cs : List Outcome) → d.stop ≡ AtEnd cs → Among (Ended r.attempt cs) (commit_entries r.attempt (next_id_here start) d.births d.prints (stop_of d.stop))
      among_end cs stop = subst (λ t. Among (Ended r.attempt cs) (commit_entries r.attempt (next_id_here start) d.births d.prints (stop_of t))) (sym stop)
          (end_logged r.attempt cs (next_id_here start) d.births d.prints)

      logged_later : (y : Entry) → Among y (commit_entries r.attempt (next_id_here start) d.births d.prints (stop_of d.stop)) → Among y later
      logged_later y i =
          let f = committed_logged start d r is y i in
          among-behind log (In e seat ∷ (release_step g).there.out.entries) y (suc f.0, f.1)

      spec_born : birth_at (births later) r.attempt.object ≡ Some r.spec
      spec_born = births-more log (In e seat ∷ (release_step g).there.out.entries) r.attempt.object r.spec knows_run.spec

      apart_from : r.attempt.object.owner ≡ me → r.attempt.object.serial + results_of r.spec ≤ r.base.serial
      apart_from own =
          let below = old.apart r.attempt ((step.leases.workers.each me x at).present r is) own in
          let same : below.0 ≡ r.spec = same_birth below.0 r.spec (sym below.1 ∙ knows_run.spec) in
          subst (λ d. r.attempt.object.serial + results_of d ≤ r.base.serial) same below.2

      started : C.Going later c.network (accepted_events log) (V.known s log c step replies k seat) me old.place x.began r.attempt r.base.serial (Unit {0}) tt old.within
          r.spec spec_born apart_from start
      started = record {
        holds = V.start_runs s log c step replies k seat e jobs made delivered me x at live node home g r is;
        going = λ run i. subst (λ (y : Execution). y.is_over ≡ false) (some_run r run (sym is ∙ i)) going_on;
        room = let next = goes.next in omega (arith, next);
        young = young;
        unsaid = unsaid;
      }

      ended_so : After e (Done g) → (cs : List Outcome) → d.stop ≡ AtEnd cs → Among (Ended r.attempt cs) later × (length cs ≡ results_of r.spec)
      ended_so a cs stop =
          let there : Among (Ended r.attempt cs) later = logged_later (Ended r.attempt cs) (among_end cs stop) in
          (there, ends_with_all (setting_of s (Done g).whole) later a.after.sound.between.legal r.attempt cs r.spec there spec_born)

      held : After e (Done g) → RunsAs g r is g
      held a = C.commit_holds later c.network (accepted_events log) (V.known s log c step replies k seat) me old.place x.began r.attempt r.base.serial (Unit {0}) tt old.within
          r.spec spec_born apart_from start d r is refl logged_later (ended_so a) started

      began_so : After e (Done g) → (release_step g).worker.began ≡ x.began
      began_so a = (release_step-kept (RunsAs g r is) (H.holds_kept _ _ _ _ _ _ _ _ _ _) g (held a)).kept_began

      says_no_push : Speaks (Unit {0}) ⊥ me (release_step g)
      says_no_push = release_step-kept (Speaks (Unit {0}) ⊥ me) (speaks_kept (Unit {0}) ⊥ me) g (P.commit_speaks (Unit {0}) ⊥ me tt start d (start_speaks (Unit {0}) ⊥))

      begun_here : After e (Done g) → (u : ℕ) (q : Attempt) (spec : Birth) → Among (push_by u me q spec) (c.network ++ (release_step g).there.out.envelopes) →
          has_begun q (release_step g).worker.began ≡ false → ⊥
      begun_here a u q spec i unbegun = elim (among-append_cases c.network (release_step g).there.out.envelopes (push_by u me q spec) i) [
        | inl was ↦ not_over (ap is_free (sym is) ∙ pushes_find_free c step.leases (suc was.0) me (TheWorker u) q spec x was.1 at live
            (ap (λ bs. has_begun q bs) (sym (began_so a)) ∙ unbegun))
        | inr new ↦ (says_no_push.said me (Push q spec)
            (subst (λ w. Among (push_by w me q spec) (release_step g).there.out.envelopes) (says_no_push.own u (push_by u me q spec) new refl) new)).1
      ]

    pub commit_goes : (d : Outcomes) (j : ℕ) (r : Execution) (is : x.run ≡ Some r) (out : r.phase ≡ Out j) (a : After e (Done (commit_step start d))) → ToMe →
        ((n : ℕ) → e ≡ Deliver n → ⊥) → Goes e (Done (commit_step start d)) a
    commit_goes d j r is out a to_me no_envelope =
        V.goes_on s log c step replies k seat e jobs made delivered me x at live node home (commit_step start d) a to_me
        (λ q f. held d j q f (ap (λ (y : Execution). y.phase) (some_run q r (sym f ∙ is)) ∙ out) a) (λ none. absurd (nobody (sym none ∙ is)))
        (λ run i l there n it ack. no_envelope n it)
        (P.commit_speaks (Unit {0}) (Unit {0}) me tt start d (start_speaks (Unit {0}) (Unit {0})))
        (λ u v q spec f o part i pushed unbegun. begun_here d j r is out a u q spec pushed unbegun)
      where
        nobody : ◌≡◌ {A = Option Execution} None (Some r) → ⊥
        nobody f = cc

    -- ---- an envelope that is no Push

    module _ (i : ℕ) (from : Endpoint) (l : Message) (is_it : e ≡ Deliver i) (sent : item_at c.network i ≡ Some (envelope from (TheWorker me) l)) where
      number_is : (n : ℕ) → e ≡ Deliver n → i ≡ n
      number_is n is = let f : Deliver i ≡ Deliver n = sym is_it ∙ is in cc

      same_receiver : (v w : ℕ) → ◌≡◌ {A = Endpoint} (TheWorker v) (TheWorker w) → w ≡ v
      same_receiver v w f = cc

      same_envelope : (p q : Envelope) → ◌≡◌ {A = Option Envelope} (Some p) (Some q) → p ≡ q
      same_envelope p q f = cc

      here_alone : ToMe
      here_alone n w endpoint says is at_n =
          let f : envelope from (TheWorker me) l ≡ envelope endpoint (TheWorker w) says = same_envelope _ _ (sym sent ∙ subst (λ q. item_at c.network q ≡ Some (envelope endpoint (TheWorker
          w) says)) (sym (number_is n is)) at_n) in
          same_receiver me w (ap (λ (z : Envelope). z.receiver) f)

      -- an acknowledgement that comes is that message
      message_is : (j : Holding) (n : ℕ) → e ≡ Deliver n → item_at c.network n ≡ Some (ack_of me j) → l ≡ HoldAck j.holder j.object
      message_is j n is ack =
          let f : envelope from (TheWorker me) l ≡ ack_of me j = same_envelope _ _ (sym sent ∙ subst (λ q. item_at c.network q ≡ Some (ack_of me j)) (sym (number_is n is)) ack) in
          ap (λ (z : Envelope). z.message) f

      no_ack : (g : WorkerContext) → is_ack l ≡ false → Unheard g
      no_ack g plain run r j there n is ack = both_ways (is_ack l) plain (ap is_ack (message_is j n is ack))

      pub plainly : (g : WorkerContext) → is_ack l ≡ false → ((X : Type 0) (Q : WorkerContext → Type 0) → IsKeptWhere X (Unit {0}) Q → Q start → Q g) → (a : After e (Done g)) → Goes e (Done g) a
      plainly g plain kept a = plain_goes g kept a here_alone (no_ack g plain)

      pub acked : (d o : Id) → l ≡ HoldAck d o → (a : After e (Done (hold_ack_reached start d o))) → Goes e (Done (hold_ack_reached start d o)) a
      acked d o says a =
          plain_goes (hold_ack_reached start d o) (λ X Q kept q. R.hold_ack_reached-kept Q kept start d o q) a here_alone unheard
        where
          same_parts : (j : Holding) → HoldAck d o ≡ HoldAck j.holder j.object → holding d o ≡ j
          same_parts j f =
              let e1 : d ≡ j.holder = cc in
              let e2 : o ≡ j.object = cc in
              ap (λ z. holding z o) e1 ∙ ap (holding j.holder) e2

          unheard : Unheard (hold_ack_reached start d o)
          unheard run r j there n is ack =
              release_step-kept (NotWaiting j) (waits_kept j) (hold_ack_reached start d o)
              (subst (λ h. NotWaiting j (hold_ack_reached start h.holder h.object)) (sym (same_parts j (sym says ∙ message_is j n is ack))) (acked_waits j start)) run r there

      -- an end that is told
      finish_kept : {X Y : Type 0} (Q : WorkerContext → Type 0) → IsKeptWhere X Y Q → ((h : WorkerContext) (ys : List Object) → Q h → Q (with_worker h (record h.worker { objects = ys }))) →
          ((h : WorkerContext) (y : Entry) → Q h → Q (logs h y)) → (w : ℕ) (q : Attempt) (n : ℕ) (rs : List EndedResult) → Q start → Q (finished_reached start w q n rs)
      finish_kept Q kept alike logged w q n rs p =
          R.finished_reached-kept Q kept (λ _ _. Unit {0}) (λ h a task m ts u f t y z.
          logged (settles (with_task_of h a.object (rests task)) a.object a.number m (results_of task.spec) ts) (Accepted a)
          (settles-kept Q (λ g o number i r x. alike g _ x) (results_of task.spec) (with_task_of h a.object (rests task)) a.object a.number m ts (alike h _ z))) start w q n rs tt p

      pub finished : is_ack l ≡ false → (w : ℕ) (q : Attempt) (n : ℕ) (rs : List EndedResult) → (a : After e (Done (finished_reached start w q n rs))) →
          Goes e (Done (finished_reached start w q n rs)) a
      finished plain w q n rs a =
          let g : WorkerContext = finished_reached start w q n rs in
          V.goes_on s log c step replies k seat e jobs made delivered me x at live node home g a here_alone
          (λ r is. let p = V.start_runs s log c step replies k seat e jobs made delivered me x at live node home g r is in
          finish_kept (RunsAs g r is) (H.holds_kept _ _ _ _ _ _ _ _ _ _)
          (λ h ys z. record { who = z.who; kept_began = z.kept_began; same = z.same; run = z.run; said = z.said })
          (λ h y z. record { who = z.who; kept_began = z.kept_began; same = z.same; run = z.run; said = z.said }) w q n rs p)
          (λ is. let p = V.start_idles s log c step replies k seat e jobs made delivered me x at live node home g is in
          finish_kept (IdlesAs g) (H.holds_kept _ _ _ _ _ _ _ _ _ _)
          (λ h ys z. record { who = z.who; kept_began = z.kept_began; same = z.same; run = z.run; said = z.said })
          (λ h y z. record { who = z.who; kept_began = z.kept_began; same = z.same; run = z.run; said = z.said }) w q n rs p)
          (no_ack g plain) (speaks (Unit {0})) (λ u v d spec f o part j pushed unbegun. says_none g (speaks ⊥) v f o j)
        where
          speaks : (X : Type 0) → Speaks X (Unit {0}) me (finished_reached start w q n rs)
          speaks X = finish_kept (Speaks X (Unit {0}) me) (speaks_kept X (Unit {0}) me)
              (λ h ys z. P.quietly X (Unit {0}) me h (with_worker h (record h.worker { objects = ys })) refl refl z)
              (λ h y z. P.quietly X (Unit {0}) me h (logs h y) refl refl z) w q n rs (start_speaks X (Unit {0}))

      -- a Push that begins nothing
      pub passed_over : is_ack l ≡ false → (a : After e (Done start)) → Goes e (Done start) a
      passed_over plain a = plainly start plain (λ X Q kept q. q) a

      pub from_node : (n : ℕ) → from ≡ TheNode n → (says : Message) → (a : After e (Done (reached start (TheNode n) says))) → Goes e (Done (reached start (TheNode n) says)) a
      from_node n by_node says a =
          plain_goes (reached start (TheNode n) says) (λ X Q kept q. R.reached-kept Q kept start (TheNode n) says tt tt q) a here_alone
          (λ run r j there m is ack. of_worker j.object.owner (sender_is j m is ack))
        where
          sender_is : (j : Holding) (m : ℕ) → e ≡ Deliver m → item_at c.network m ≡ Some (ack_of me j) → TheNode n ≡ TheWorker j.object.owner
          sender_is j m is ack =
              let f : envelope from (TheWorker me) l ≡ ack_of me j = same_envelope _ _ (sym sent ∙ subst (λ q. item_at c.network q ≡ Some (ack_of me j)) (sym (number_is m is)) ack) in
              sym by_node ∙ ap (λ (z : Envelope). z.sender) f

          of_worker : (v : ℕ) → TheNode n ≡ TheWorker v → ⊥
          of_worker v f = absurd (cc)

    -- ---- a Push that begins its attempt

    module _ (i u : ℕ) (q : Attempt) (spec : Birth) (is_it : e ≡ Deliver i) (sent : item_at c.network i ≡ Some (push_by u me q spec)) where
      abbrev begun_so : WorkerContext
      begun_so = begins_run start q spec

      abbrev low : ℕ
      low = length x.objects + 1

      abbrev log_then : List Entry
      log_then = log ++ In e seat ∷ (release_step begun_so).there.out.entries

      from_owner : item_at c.network i ≡ Some (push_by q.object.owner me q spec)
      from_owner = subst (λ v. item_at c.network i ≡ Some (push_by v me q spec)) (k.pushes u me q spec (among_at c.network i (push_by u me q spec) sent)) sent

      some_number : (n : ℕ) (l : Envelope) → item_at c.network n ≡ Some l → 0 < n
      some_number zero l f = absurd (cc)
      some_number (suc n) l f = omega arith

      first : IsFirst (is_push_of me q) c.network 0
      first = first_behind (is_push_of me q) c.network 0 i (push_by q.object.owner me q spec) from_owner (is_push me q spec)
          (some_number i (push_by q.object.owner me q spec) from_owner)

      abbrev BeginsAs : WorkerContext → Type 0
      BeginsAs h = H.Holds log_then c.network (accepted_events log) (V.known s log c step replies k seat) me first.number (x.began ++ q ∷ []) q low (Unit {0}) h

      begins : BeginsAs begun_so
      begins = record {
        who = refl;
        kept_began = refl;
        same = λ run f. let same : ran ≡ run = some_run ran run f in (ap (λ (z : Execution). z.attempt) (sym same), ap (λ (z : Execution). z.base.serial) (sym same), tt);
        run = λ run f. subst (RunHolds log_then (c.network ++ []) (accepted_events log) me first.number) (some_run ran run f) (record {
          over = λ f. absurd (not_yet f);
          each = λ j there. absurd (among-nothing j there);
          held = λ other j there. absurd (among-nothing j there);
        });
        said = λ v f o j. absurd (among-nothing _ j);
      }
        where
          ran : Execution
          ran = new_run q spec (object_id me low)

          not_yet : false ≡ true → ⊥
          not_yet f = cc

      begins_last : BeginsAs (release_step begun_so)
      begins_last = release_step-kept BeginsAs (H.holds_kept _ _ _ _ _ _ _ _ _ _) begun_so begins

      sane_before : Sane log
      sane_before = legal_logs_are_sane (setting_of s c) log b.legal

      born_low : (v : ℕ) (d : Attempt) (f : Birth) → Among (push_by v me d f) c.network → d.object.owner ≡ me → IsBelow log d low
      born_low v d f j own =
          let says : IsPushed log d f me = all_among (Says (past log b.asked)) c.network (push_by v me d f) b.knows.told j in
          let last : Id = object_id d.object.owner (d.object.serial + others_of f) in
          let part = sane_before.grouped.whole d.object last f says.born (is_made (record { object = d.object; birth = f }) last refl (omega arith) (omega arith)) in
          let below = sane_before.serials last (_, part) in
          let same : next_serial d.object.owner (births log) ≡ length x.objects + 1 = ap (λ w. next_serial w (births log)) own ∙ (b.knows.workers me x at live).serial in
          (f, says.born, omega (arith, below, same))

      main_low : IsBelow log main_attempt low
      main_low = (main_birth, ap (λ t. if t then Some main_birth else birth_at (flat_map born_in log) main_object) (same_id-refl main_object), omega arith)

      began_low : (d : Attempt) → has_begun d (x.began ++ q ∷ []) ≡ true → d.object.owner ≡ me → IsBelow log d low
      began_low d f own = elim (list_any-push_cases (λ z. same_attempt z d) x.began q f) [
        | inl old ↦ elim ((step.leases.workers.each me x at).began d old) [
          | inl (main, _) ↦ subst (λ z. IsBelow log z low) (sym main) main_low
          | inr (v, f, j) ↦ born_low v d f j own
        ]
        | inr same ↦ subst (λ (z : Attempt). z.object.owner ≡ me → IsBelow log z low) (same_attempt-true q d same)
            (born_low u q spec (among_at c.network i (push_by u me q spec) sent)) own
      ]

      pushed_first : (spec : Birth) × (item_at c.network first.number ≡ Some (push_by q.object.owner me q spec)) × ((n : ℕ) (f : Birth) → n < first.number →
          item_at c.network n ≡ Some (push_by q.object.owner me q f) → ⊥)
      pushed_first =
          let r = push_is me q first.item first.passes in
          (r.0, first.there ∙ ap (λ z. Some z) r.1, λ n f less at_n. first.between n (push_by q.object.owner me q f) (some_number n _ at_n) less at_n (is_push me q f))

      speaks_then : (X : Type 0) → Speaks X (Unit {0}) me begun_so
      speaks_then X = P.quietly X (Unit {0}) me start begun_so refl refl (start_speaks X (Unit {0}))

      pub begin_goes : (a : After e (Done begun_so)) → Goes e (Done begun_so) a
      begin_goes a =
          let speaks : Speaks (Unit {0}) (Unit {0}) me (release_step begun_so) = release_step-kept (Speaks (Unit {0}) (Unit {0}) me)
          (speaks_kept (Unit {0}) (Unit {0}) me) begun_so (speaks_then (Unit {0})) in
          E.worker_goes s log c step replies k e seat (Done begun_so) a.after a.asks a.calm a.accepted a.network a.sent me x at x.node (release_step begun_so) refl refl
          (here_alone i (TheWorker u) (Push q spec) is_it sent) (record {
            runs = λ run f. my_run run f (begins_last.same run f);
            own = speaks.own;
            pushes = λ w d f j. (speaks.said w (Push d f) j).0;
            says = λ v w d spec f o part j pushed. absurd (says_none begun_so (speaks_then ⊥) w f o j);
          })
        where
          my_run : (run : Execution) → (release_step begun_so).worker.run ≡ Some run → (run.attempt ≡ q) × (run.base.serial ≡ low) × (Unit {0}) →
              RunKeeps log_then (Done begun_so).whole.network (accepted_events log_then) me (release_step begun_so).worker run
          my_run run f same =
              E.keeps_on s log c step replies k e seat (Done begun_so) a.after a.asks a.calm a.accepted a.network a.sent me (release_step begun_so).worker run first.number
              (item_within c.network first.number first.item first.there)
              (λ other. subst (λ (d : Attempt). (g : Birth) × (item_at c.network first.number ≡ Some (push_by d.object.owner me d g)) × ((n : ℕ) (h : Birth) → n < first.number →
              item_at c.network n ≡ Some (push_by d.object.owner me d h) → ⊥)) (sym same.0) pushed_first)
              (begins_last.run run f) (no_ack i (TheWorker u) (Push q spec) is_it sent begun_so refl run f)
              (λ d begun own. subst (IsBelow log_then d) (sym same.1)
              (below_more log (In e seat ∷ (release_step begun_so).there.out.entries) d low (began_low d (ap (λ bs. has_begun d bs) (sym begins_last.kept_began) ∙ begun) own)))

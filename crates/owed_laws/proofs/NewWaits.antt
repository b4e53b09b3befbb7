-- A commit that leaves an attempt to wait for an own object: an own put is never waited for, and of an own accepted one a copy is fetched.
use Rattle.std.proofs.Common.{◌≡◌, ◌≢◌, ◌≤◌, ◌<◌, ℕ, zero, suc, List, [], ◌∷◌, ◌++◌, length, map, Some, None, Option, refl, ap, sym, subst, ◌∙◌, inl, inr, append_assoc, append-nil, arith}
use Rattle.std.specs.Prelude.{true, false, if◌then◌else◌, not, ◌&&◌, ◌==◌}
use Rattle.std.proofs.lemmas.Bool.{and_parts, eqb-true, not-true}
use Rattle.std.proofs.lemmas.Bool.Decides.{nat_tests}
use Rattle.meaning.proofs.BirthLaws.{at_test, first_is_made}
use Rattle.meaning.specs.Births.{birth_at, Part, part_at, part_of}
use Rattle.meaning.specs.Mains.{KeepsMainApart}
use Rattle.meaning.specs.Values.{Id, Outcome, Put, Value}
use Rattle.values.specs.Listed.{each_once, ids_in_outcome}
use Rattle.event_log.proofs.Extending.{parts-more}
use Rattle.event_log.specs.Breaks.{Among}
use Rattle.event_log.specs.Entries.{Accepted, Attempt, Commit, Deliver, Entry, Event, In, main_attempt, NoJob, Opened, Refusal, Released, Stale}
use Rattle.event_log.specs.Events.{from_one, node_of}
use Rattle.event_log.specs.Rules.{Setting}
use Rattle.event_log.specs.Words.{attempt, births, same_attempt, worker_of}
use Rattle.owed_asks.proofs.of_holding_steps.Known.{known_born}
use Rattle.protocol.specs.Answers.{Step, Takes, decided}
use Rattle.protocol.specs.Commits.{keeps_content, keeps_contents, asks_where, commit_by, commit_step, ends, rests_if_waiting, stops_by, with_outcomes}
use Rattle.protocol.specs.Events.{objects_made, committed_by, happens, is_live_worker, with_committed}
use Rattle.protocol.specs.Holders.{holds_ids, passes_on}
use Rattle.protocol.specs.Jobs.{AtEnd, AtGet, JobRecord, CommitInput, Nothing, OfAnother, OfJob, Outcomes, Stopped}
use Rattle.protocol.specs.Messages.{Fetch, TheNode, TheWorker, envelope}
use Rattle.protocol.specs.Numbered.{changed_at, item_at}
use Rattle.protocol.specs.Refusals.{commit_refusal, is_out_by, refusal, unless}
use Rattle.protocol.specs.Releases.{release_step}
use Rattle.protocol.specs.Runs.{gives_slot_back, is_heard, leaves, leaves_by, tells, tells_stop}
use Rattle.protocol.specs.Sets.{is_empty, repeated}
use Rattle.protocol.specs.Stores.{with_ended}
use Rattle.protocol.specs.Steps.{WorkerContext, store_here, with_phase, with_run, with_store}
use Rattle.protocol.specs.Tables.{HasEnded, Out, Ready, Execution, Waits, Worker, has_stopped, is_waiting_for, knows_dead, needed_by, new_worker, object_needed, owner_of}
use Rattle.protocol.specs.Cluster.{Transition, ClusterState, after_worker, worker_at, worker_does_at, worker_does_by}
use Rattle.owed_asks.specs.of_protocol_laws.Coming.{IsRight}
use Rattle.owed_asks.specs.of_protocol_laws.Sound.{IsSound}
use Rattle.owed_asks.proofs.of_protocol_laws.Tests.{live_worker, or_none, out_run, unless_none}
use Rattle.owed_asks.specs.of_protocol_legal.Done.{IsTrue}
use Rattle.owed_asks.specs.of_protocol_legal.Whole.{setting_of}
use Rattle.owed_asks.proofs.of_protocol_legal.Bearing.{still_holds}
use Rattle.protocol_owed.specs.Replies.{NewWaitIsTended, NewWaitsAreTended, NewlyWaits, SaysFetch}
use Rattle.protocol_owed.specs.Runs.{Handing, Running, after_event, after_events, answer_to, opening_run}
use Rattle.protocol_owed.specs.Seen.{IsCalm}
use Rattle.protocol_owed.proofs.Envelopes.{among-append_cases, among-more}
use Rattle.protocol_owed.proofs.Moves.{IsKept, asks_where-kept, release_step-kept, rests_if_waiting-kept}
use Rattle.protocol_owed.proofs.NodeMoves.{IsKeptThere, asks_slot-kept, frees-kept}
use Rattle.protocol_owed.proofs.Nodes.{there_more}
use Rattle.owed_asks.specs.of_lease_discipline.Slots.{AreRight}
use Rattle.owed_asks.specs.of_lease_discipline.Told.{IsInStep}
use Rattle.owed_asks.proofs.of_lease_discipline.Heres.{changed_now}
use Rattle.owed_asks.proofs.of_lease_discipline.Tame.{item_mapped}
use Rattle.owed_asks.proofs.of_lease_discipline.Told.{locations}
use Rattle.owed_asks.specs.Law.{EveryEvent, happening}
use Rattle.owed_asks.proofs.Laws.{IsTaken, RunKeeps, calm_so_far, is_taken, last_log, last_whole, next_keeps, runs_keep}
use Rattle.owed_asks.proofs.Needs.{new_foreign_waits_are_asked}
use Rattle.owed_asks.proofs.Waiting.{WaitsOnly, asks_where-waits, release_step-waits}
use Rattle.owed_asks.proofs.WaitsTell.{IsWaitingHere, waits_for}
use Rattle.owed_replies.proofs.Advancing.{IsBrought}
use Rattle.owed_replies.proofs.Committing.{release_step-run}
use Rattle.owed_replies.proofs.Delivered.{born_serial}
use Rattle.owed_replies.proofs.Happens.{event_advances}
use Rattle.owed_replies.proofs.Known.{born_by_past}
use Rattle.owed_replies.proofs.Runs.{RunReplies, run_replies}
use Rattle.owed_laws.proofs.OwnNeeds.{GoesOnHere}
use Rattle.meaning.specs.Readings.{IsBorn}
use Rattle.event_log.specs.Sane.{Sane}
use Rattle.event_log.proofs.SaneLaws.{legal_logs_are_sane}
use Rattle.meaning.specs.Runs.{next_id}
use Rattle.owed_laws.proofs.OwnWaits as W
use Rattle.owed_laws.proofs.Unreleased.{needed_known, needed_stays}

-- ---- what an event logged before stays the beginning of what it logs

abbrev Begins : List Entry → List Entry → Type 0
Begins es xs = (more : List Entry) × (xs ≡ es ++ more)

longer : (es xs more : List Entry) → Begins es xs → Begins es (xs ++ more)
longer es xs more (b, e) = (b ++ more, ap (λ zs. zs ++ more) e ∙ append_assoc es b more)

begins_there : (es : List Entry) → IsKeptThere (λ h. Begins es h.out.entries)
begins_there es = record {
  opens = λ h w p. longer es h.out.entries (Opened w h.number ∷ []) p;
  says = λ h w m p. p;
  scheduler = λ h s p. p;
  store = λ h s p. p;
}

begins_stays : (es : List Entry) → IsKept (λ h. Begins es h.there.out.entries)
begins_stays es = record {
  logs = λ h more _ p. longer es h.there.out.entries more p;
  says = λ h w m p. p;
  says_to_node = λ h n m p. p;
  worker = λ h y _ _ p. p;
  store = λ h s p. p;
  frees = λ h p. frees-kept (λ g. Begins es g.out.entries) (begins_there es) h.there h.me p;
  asks = λ h p. asks_slot-kept (λ g. Begins es g.out.entries) (begins_there es) h.there h.me p;
}

-- ---- an attempt that ends waits for nothing

abbrev NeedsNothing : WorkerContext → Type 0
NeedsNothing h = needed_by h.worker.run ≡ None

leaves_nothing : (h : WorkerContext) (run : Execution) (c : List Outcome) → run.phase ≡ HasEnded c → NeedsNothing (leaves h run)
leaves_nothing h run c ended =
    at_test (λ t. NeedsNothing (if t then with_run h (record run { is_acknowledged = true }) else if knows_dead h.worker (owner_of run) then is_heard (tells h run) run else tells h run))
    (same_attempt run.attempt main_attempt) (λ _. none)
    (λ _. at_test (λ t. NeedsNothing (if t then is_heard (tells h run) run else tells h run)) (knows_dead h.worker (owner_of run)) (λ _. none)
    (λ _. subst (λ p. NeedsNothing (tells_stop (with_run h run) run p)) (sym ended) none))
  where
    none : object_needed run.phase ≡ None
    none = ap object_needed ended

module _ (b : WorkerContext) (run : Execution) (c : List Outcome) where
  -- the attempt as it ends, with the Holds that wait
  abbrev Ends : WorkerContext → Type 0
  Ends h = (run : Execution) × (h.worker.run ≡ Some run) × (run.phase ≡ HasEnded c)

  held_ends : (h : WorkerContext) (e : Id) (os : List Id) → Ends h → Ends (holds_ids h e os)
  held_ends h e os (last, is, ended) =
      let s = still_holds h.me h.worker.node (length h.worker.objects) last e h os (record { me = refl; node = refl; count = refl; holds = last.holds; runs = is }) in
      (record last { holds = s.holds }, s.runs, ended)

  contents_end : (cs : List Outcome) (h : WorkerContext) (o : Id) (number : ℕ) → Ends h → Ends (keeps_contents h o number cs)
  contents_end [] h o number p = p
  contents_end (d ∷ cs) h o number p =
      contents_end cs (keeps_content h o number d) (next_id o) number
      (held_ends (passes_on (with_store h (with_ended (store_here h) o number d)) o (each_once (ids_in_outcome d))) o (each_once (ids_in_outcome d)) p)

  abbrev held : WorkerContext
  held = keeps_contents (with_phase b run (HasEnded c)) run.attempt.object run.attempt.number c

  still : Ends held
  still = contents_end c (with_phase b run (HasEnded c)) run.attempt.object run.attempt.number (record run { phase = HasEnded c }, refl, refl)

  by_run : (h : WorkerContext) (r : Option Execution) → h.worker.run ≡ r → (last : Execution) → r ≡ Some last → last.phase ≡ HasEnded c → NeedsNothing (leaves_by h r)
  by_run h None e last f g = absurd (cc)
  by_run h (Some next) e last f g =
      let same : next ≡ last = cc in
      let ended : next.phase ≡ HasEnded c = ap (λ (i : Execution). i.phase) same ∙ g in
      at_test (λ t. NeedsNothing (if t then leaves h (record next { is_over = true }) else h)) (has_stopped next.phase && not next.is_over && is_empty next.holds)
      (λ _. leaves_nothing h (record next { is_over = true }) c ended) (λ _. ap needed_by e ∙ ap object_needed ended)

  ends_nothing : NeedsNothing (release_step (ends b run c))
  ends_nothing = ap needed_by (release_step-run (ends b run c)) ∙ by_run held held.worker.run refl still.0 still.1 still.2

-- ---- a commit that was taken

-- the job's worker lives and its attempt is out as it
record IsCommit (c : ClusterState) (j w : ℕ) (handed : CommitInput) : Type 0 where
  given : JobRecord
  at : item_at c.jobs j ≡ Some given
  same : given.worker ≡ w
  fresh : given.is_committed ≡ false
  worker : Worker
  there : worker_at c given.worker ≡ Some worker
  lives : worker.is_live ≡ true
  run : Execution
  runs : worker.run ≡ Some run
  out : run.phase ≡ Out j
  outcomes : Outcomes
  of_job : handed ≡ OfJob outcomes

commit_there : (c : ClusterState) (j w : ℕ) (handed : CommitInput) (g : JobRecord) → item_at c.jobs j ≡ Some g → g.worker ≡ w → refusal c (Commit j) handed ≡ None → IsCommit c j w handed
commit_there c j w handed g at same unrefused = go handed refl (ap (commit_refusal c j handed) (sym at) ∙ unrefused)
  where
    never : false ≡ true → ⊥
    never q = cc

    nothing : not g.is_committed && false ≡ true → ⊥
    nothing q = never (and_parts (not g.is_committed) false q).1

    go : (i : CommitInput) → handed ≡ i → commit_refusal c j i (Some g) ≡ None → IsCommit c j w handed
    go Nothing e h = absurd (nothing (and_parts (not g.is_committed && false) (is_out_by (worker_at c g.worker) j) (unless_none _ NoJob (or_none _ _ h).0)).0)
    go OfAnother e h = absurd (nothing (and_parts (not g.is_committed && false) (is_out_by (worker_at c g.worker) j) (unless_none _ NoJob (or_none _ _ h).0)).0)
    go (OfJob d) e h =
        let parts = or_none (unless (not g.is_committed && true && is_out_by (worker_at c g.worker) j) NoJob) (unless (is_live_worker (worker_at c g.worker)) Stale) h in
        let l = live_worker c g.worker (unless_none (is_live_worker (worker_at c g.worker)) Stale parts.1) in
        let a = and_parts (not g.is_committed && true) (is_out_by (worker_at c g.worker) j)
        (unless_none (not g.is_committed && true && is_out_by (worker_at c g.worker) j) NoJob parts.0) in
        let run = out_run l.worker.run j (ap (λ (i : Option Worker). is_out_by i j) (sym l.at) ∙ a.1) in
        record {
          given = g;
          at = at;
          same = same;
          fresh = not-true g.is_committed (and_parts (not g.is_committed) true a.0).0;
          worker = l.worker;
          there = l.at;
          lives = l.lives;
          run = run.0;
          runs = run.1;
          out = run.2;
          outcomes = d;
          of_job = e;
        }

from_mapped : (f : JobRecord → ℕ) (xs : List JobRecord) (k w : ℕ) → from_one (map f xs) k ≡ Some w → (x : JobRecord) × (item_at xs k ≡ Some x) × (w ≡ f x)
from_mapped f xs zero w e = absurd (cc)
from_mapped f xs (suc i) w e = item_mapped f xs (suc i) w e

unrefused_so : (c : ClusterState) (e : Event) (handed : CommitInput) (step : Step) (code : Option Refusal) → decided c e handed code ≡ Takes step → code ≡ None
unrefused_so c e handed step None f = refl
unrefused_so c e handed step (Some code) f = absurd (cc)

module _ (s : Setting) (slots : ℕ) (some : 0 < s.nodes) (slot : 1 ≤ slots) (apart : KeepsMainApart s.script) (gs : List Handing) (right : AreRight s (opening_run s.nodes slots) gs)
    (g : Handing) (step : Step) where
  abbrev r : Running
  r = after_events (opening_run s.nodes slots) gs

  abbrev c : ClusterState
  c = r.whole

  keeps : RunKeeps s r
  keeps = runs_keep s slots some slot apart gs right

  module _ (is : IsRight s r.whole g.event g.handed) (taken : answer_to r g ≡ Takes step) (calm : IsCalm (after_event r g).log) (w : ℕ) (a : Attempt) (y : Id)
      (new : NewlyWaits (happening s r g step) w a y) (own : y.owner ≡ w) where
    next : RunKeeps s (after_event r g)
    next = next_keeps s slots some slot apart gs right g is

    x : IsWaitingHere (after_event r g).whole w a y
    x = waits_for s (after_event r g) next.step w a y new.waits

    job : (i : JobRecord) × (item_at c.jobs new.job ≡ Some i) × (w ≡ i.worker)
    job = from_mapped (λ (i : JobRecord). i.worker) c.jobs new.job w (ap (λ ws. from_one ws new.job) (sym keeps.step.sound.between.knows.claims) ∙ new.own)

    k : IsCommit c new.job w g.handed
    k = commit_there c new.job w g.handed job.0 job.1 (sym job.2)
        (ap (λ e. refusal c e g.handed) (sym new.commit) ∙ unrefused_so c g.event g.handed step (refusal c g.event g.handed) taken)

    before : IsCalm r.log
    before = calm_so_far r g step taken calm

    done : IsTrue (setting_of s c) k.run k.outcomes
    done = (subst (λ e. IsRight s c e (OfJob k.outcomes)) new.commit (subst (λ i. IsRight s c g.event i) k.of_job is)) k.given k.worker k.run k.at k.there k.runs k.out

    abbrev start : WorkerContext
    start = W.start s apart r.log c keeps.step.sound before new.job g.seat k.outcomes k.given k.at k.fresh k.worker k.there k.lives k.run k.runs k.out done

    abbrev end : WorkerContext
    end = release_step (commit_step start k.outcomes)

    abbrev d : ClusterState
    d = with_committed c new.job (objects_made k.outcomes.births)

    made : happens c g.event g.handed ≡ after_worker d k.given.worker k.worker.node end
    made =
        ap (λ e. happens c e g.handed) new.commit ∙ ap (λ o. committed_by c new.job g.handed o) k.at ∙ ap (λ o. committed_by c new.job o (Some k.given)) k.of_job ∙
        ap (λ o. worker_does_by d k.given.worker (λ h. commit_step h k.outcomes) o) k.there ∙
        ap (λ o. worker_does_at d k.given.worker k.worker (λ h. commit_step h k.outcomes) o)
        (W.home s apart r.log c keeps.step.sound before new.job g.seat k.outcomes k.given k.at k.fresh k.worker k.there k.lives k.run k.runs k.out done).1

    took : IsTaken c g.event g.handed step
    took = is_taken c g.event g.handed step taken

    entries : step.entries ≡ end.there.out.entries
    entries = took.entries ∙ ap (λ (m : Transition). m.out.entries) made

    envelopes : step.envelopes ≡ end.there.out.envelopes
    envelopes = took.envelopes ∙ ap (λ (m : Transition). m.out.envelopes) made

    log_then : (after_event r g).log ≡ r.log ++ In (Commit new.job) g.seat ∷ end.there.out.entries
    log_then = last_log r g step taken ∙ ap (λ e. r.log ++ In e g.seat ∷ step.entries) new.commit ∙ ap (λ es. r.log ++ In (Commit new.job) g.seat ∷ es) entries

    same_worker : (p q : Worker) → ◌≡◌ {A = Option Worker} (Some p) (Some q) → p ≡ q
    same_worker p q e = cc

    worker_then : x.worker ≡ end.worker
    worker_then = same_worker x.worker end.worker
        (sym x.there ∙ ap (λ m. worker_at m w) (last_whole r g step taken ∙ took.whole) ∙ ap (λ (m : Transition). worker_at m.whole w) made ∙
        ap (λ v. worker_at (after_worker d k.given.worker k.worker.node end).whole v) (sym k.same) ∙
        there_more (changed_at c.workers k.given.worker (λ _. end.worker)) (repeated end.there.opened (new_worker k.worker.node)) k.given.worker end.worker
        (changed_now c.workers k.given.worker k.worker end.worker k.there))

    run_then : end.worker.run ≡ Some x.run
    run_then = ap (λ (v : Worker). v.run) (sym worker_then) ∙ x.at

    need_then : needed_by end.worker.run ≡ Some y
    need_then = ap needed_by run_then ∙ ap object_needed x.waits

    -- it doesn't go on
    not_on : GoesOnHere end → ⊥
    not_on (last, e, ready) = clash last x.run (sym e ∙ run_then) ready x.waits
      where
        clash : (p q : Execution) → ◌≡◌ {A = Option Execution} (Some p) (Some q) → p.phase ≡ Ready → q.phase ≡ Waits y x.fetching → ⊥
        clash p q i ready waits = let same : p ≡ q = cc in let f : Ready ≡ Waits y x.fetching = sym ready ∙ ap (λ (z : Execution). z.phase) same ∙ waits in absurd (cc)

    -- the job stopped at this need
    stop_is : k.outcomes.stop ≡ AtGet y
    stop_is = by_stop k.outcomes.stop refl
      where
        one : (z : Id) → WaitsOnly z end → z ≡ y
        one z only = sym (only y need_then)

        by_stop : (t : Stopped) → k.outcomes.stop ≡ t → k.outcomes.stop ≡ AtGet y
        by_stop (AtGet z) e =
            let mid : WorkerContext = W.mid s apart r.log c keeps.step.sound before new.job g.seat k.outcomes k.given k.at k.fresh k.worker k.there k.lives k.run k.runs k.out done z e in
            let asked : WorkerContext = asks_where mid z in
            let only : WaitsOnly z asked = asks_where-waits z mid (λ i f. same z i f) in
            let rested : WaitsOnly z (rests_if_waiting asked z) =
            at_test (λ t. WaitsOnly z (if t then gives_slot_back asked else asked)) (is_waiting_for asked.worker z) (λ _. only) (λ _. only) in
            e ∙ ap AtGet (one z (subst (λ h. WaitsOnly z (release_step h))
            (sym (W.committed s apart r.log c keeps.step.sound before new.job g.seat k.outcomes k.given k.at k.fresh k.worker k.there k.lives k.run k.runs k.out done z e))
            (release_step-waits z (rests_if_waiting asked z) rested)))
          where
            same : (z i : Id) → ◌≡◌ {A = Option Id} (Some z) (Some i) → i ≡ z
            same z i f = cc
        by_stop (AtEnd content) e = absurd (some_none (sym need_then ∙ nothing))
          where
            some_none : ◌≡◌ {A = Option Id} (Some y) None → ⊥
            some_none f = cc

            nothing : needed_by end.worker.run ≡ None
            nothing =
                let ahead = W.ahead s apart r.log c keeps.step.sound before new.job g.seat k.outcomes k.given k.at k.fresh k.worker k.there k.lives k.run k.runs k.out done in
                let b = W.borne s apart r.log c keeps.step.sound before new.job g.seat k.outcomes k.given k.at k.fresh k.worker k.there k.lives k.run k.runs k.out done in
                ap (λ h. needed_by (release_step h).worker.run)
                (ap (commit_by start k.outcomes) k.runs ∙ ap (λ t. stops_by b t b.worker.run) e ∙ ap (stops_by b (AtEnd content)) ahead.1.1.runs) ∙
                ends_nothing b (record (with_outcomes k.run k.outcomes) { holds = ahead.1.1.holds }) content

    -- ---- in the middle of the event, where the need is looked for

    abbrev log_mid : List Entry
    log_mid = W.log_mid s apart r.log c keeps.step.sound before new.job g.seat k.outcomes k.given k.at k.fresh k.worker k.there k.lives k.run k.runs k.out done y stop_is

    abbrev es_mid : List Entry
    es_mid = (W.borne s apart r.log c keeps.step.sound before new.job g.seat k.outcomes k.given k.at k.fresh k.worker k.there k.lives k.run k.runs k.out done).there.out.entries

    -- the log goes on from there
    on_from : (more : List Entry) × ((after_event r g).log ≡ log_mid ++ more)
    on_from =
        let mid : WorkerContext = W.mid s apart r.log c keeps.step.sound before new.job g.seat k.outcomes k.given k.at k.fresh k.worker k.there k.lives k.run k.runs k.out done y stop_is in
        let kept = begins_stays es_mid in
        let asked : Begins es_mid (asks_where mid y).there.out.entries =
        asks_where-kept (λ h. Begins es_mid h.there.out.entries) kept mid y ([], sym (append-nil es_mid)) in
        let rested : Begins es_mid (rests_if_waiting (asks_where mid y) y).there.out.entries =
        rests_if_waiting-kept (λ h. Begins es_mid h.there.out.entries) kept (asks_where mid y) y asked in
        let ended : Begins es_mid end.there.out.entries =
        subst (λ h. Begins es_mid (release_step h).there.out.entries) (sym (W.committed s apart r.log c keeps.step.sound before new.job g.seat k.outcomes k.given k.at k.fresh k.worker k.there k.lives k.run k.runs k.out done y stop_is))
        (release_step-kept (λ h. Begins es_mid h.there.out.entries) kept (rests_if_waiting (asks_where mid y) y) rested) in (
          ended.0,
          log_then ∙ ap (λ es. r.log ++ In (Commit new.job) g.seat ∷ es) ended.1 ∙ sym (append_assoc r.log (In (Commit new.job) g.seat ∷ es_mid) ended.0),
        )

    -- ---- after the event

    sound : IsSound s (after_event r g).log (after_event r g).whole
    sound = next.step.sound

    runs_then : worker_of a (after_event r g).log ≡ Some w
    runs_then = subst (λ i. worker_of i (after_event r g).log ≡ Some w) x.present ((sound.between.knows.workers w x.worker x.there x.lives).run x.run x.at).runs

    unreleased : Among (Released y) log_mid → ⊥
    unreleased i =
        needed_stays s (after_event r g).log sound.past sound.held.joined calm a w y runs_then new.waits.needs
        (subst (λ l. Among (Released y) l) (sym on_from.1) (among-more log_mid on_from.0 (Released y) i))

    serial : 1 ≤ y.serial
    serial = born_serial (setting_of s (after_event r g).whole) (after_event r g).log sound.between.legal y
        (born_by_past s (after_event r g).log (after_event r g).whole sound y (known_born sound.past sound.held.joined.legal a y
        (needed_known s (after_event r g).log sound.past sound.held.joined calm a y new.waits.needs)))

    own_here : y.owner ≡ k.given.worker
    own_here = own ∙ sym k.same

    sane_mid : Sane log_mid
    sane_mid = W.sane_mid s apart r.log c keeps.step.sound before new.job g.seat k.outcomes k.given k.at k.fresh k.worker k.there k.lives k.run k.runs k.out done y stop_is

    sane_then : Sane (after_event r g).log
    sane_then = legal_logs_are_sane (setting_of s (after_event r g).whole) (after_event r g).log sound.between.legal

    abbrev born_mid : IsBorn (births log_mid) y
    born_mid = W.born_mid s apart r.log c keeps.step.sound before new.job g.seat k.outcomes k.given k.at k.fresh k.worker k.there k.lives k.run k.runs k.out done y stop_is

    same_part : (p q : Part) → ◌≡◌ {A = Option Part} (Some p) (Some q) → p ≡ q
    same_part p q e = cc

    -- an own put is never waited for
    own_put : (v : Value) → birth_at (births (after_event r g).log) y ≡ Some (Put v) → ⊥
    own_put v e =
        let later : part_at (births (after_event r g).log) y ≡ Some born_mid.0 = ap (λ l. part_at (births l) y) on_from.1 ∙ parts-more log_mid on_from.0 y born_mid.0 born_mid.1 in
        let same : born_mid.0 ≡ part_of (record { object = y; birth = Put v }) y =
        same_part born_mid.0 (part_of (record { object = y; birth = Put v }) y) (sym later ∙ sane_then.grouped.whole y y (Put v) e (first_is_made (record { object = y; birth = Put v }))) in
        let born : birth_at (births log_mid) y ≡ Some (Put v) = subst (λ (p : Part). birth_at (births log_mid) p.born.object ≡ Some p.born.birth) same (sane_mid.grouped.firsts y born_mid.0 born_mid.1) in
        not_on (W.put_answered s apart r.log c keeps.step.sound before new.job g.seat k.outcomes k.given k.at k.fresh k.worker k.there k.lives k.run k.runs k.out done y stop_is own_here serial unreleased v born)

    home : node_of k.given.worker r.log ≡ Some k.worker.node
    home = locations s r.log c keeps.step.sound.between k.given.worker k.worker k.there

    same_number : (m n : ℕ) → ◌≡◌ {A = Option ℕ} (Some m) (Some n) → m ≡ n
    same_number m n e = cc

    -- of an accepted one a copy is fetched
    own_accepted : (number : ℕ) → Among (Accepted (attempt born_mid.0.born.object number)) r.log →
        (m : ℕ) × (node_of w r.log ≢ Some m) × SaysFetch (happening s r g step) w m y number
    own_accepted number i = elim (W.accepted_served s apart r.log c keeps.step.sound before new.job g.seat k.outcomes k.given k.at k.fresh k.worker k.there k.lives k.run k.runs k.out done y stop_is own_here serial unreleased number i) [
      | inl goes ↦ absurd (not_on goes)
      | inr (m, other, sent) ↦ (
        m,
        λ at_home. other (same_number m k.worker.node (sym at_home ∙ ap (λ v. node_of v r.log) (sym k.same) ∙ home)),
        subst (λ v. Among (envelope (TheWorker v) (TheNode m) (Fetch y number)) step.envelopes) k.same
            (subst (λ ls. Among (envelope (TheWorker k.given.worker) (TheNode m) (Fetch y number)) ls) (sym envelopes) sent),
      )
    ]

    replies : RunReplies s r
    replies = run_replies s slots some apart gs right

    -- a commit accepts nothing
    accepts_none : (i : Attempt) → Among (Accepted i) step.entries → ⊥
    accepts_none i h =
        let after : IsInStep s (r.log ++ In g.event g.seat ∷ (happens c g.event g.handed).out.entries) (happens c g.event g.handed).whole =
        subst (λ l. IsInStep s l (happens c g.event g.handed).whole) (last_log r g step taken ∙ ap (λ es. r.log ++ In g.event g.seat ∷ es) took.entries)
        (subst (λ m. IsInStep s (after_event r g).log m) (last_whole r g step taken ∙ took.whole) next.step) in
        let advances = event_advances s r.log c replies.step replies.replies g.seat g.event g.handed (unrefused_so c g.event g.handed step (refusal c g.event g.handed) taken) after in
        let brought : IsBrought c g.event i = advances.accepts i (subst (λ es. Among (Accepted i) es) took.entries h) in
        clash brought.number (sym brought.event ∙ new.commit)
      where
        clash : (n : ℕ) → Deliver n ≡ Commit new.job → ⊥
        clash n e = cc

    tended : NewWaitIsTended (happening s r g step) w y
    tended = record {
      foreign = λ apart_from. absurd (apart_from own);
      own_put = λ _. own_put;
      own_accepted = λ _ number n at. own_accepted number (accepted_so number at.part at.born at.accepted);
    }
      where
        not_first : (i : Attempt) → Among (Accepted i) (In g.event g.seat ∷ step.entries) → Among (Accepted i) step.entries
        not_first i (zero, e) = absurd (cc)
        not_first i (suc n, e) = (n, e)

        accepted_so : (number : ℕ) (p : Part) → part_at (births (after_event r g).log) y ≡ Some p → Among (Accepted (attempt p.born.object number)) (after_event r g).log →
            Among (Accepted (attempt born_mid.0.born.object number)) r.log
        accepted_so number p born accepted =
            let later : part_at (births (after_event r g).log) y ≡ Some born_mid.0 = ap (λ l. part_at (births l) y) on_from.1 ∙ parts-more log_mid on_from.0 y born_mid.0 born_mid.1 in
            let same : p ≡ born_mid.0 = same_part p born_mid.0 (sym born ∙ later) in
            let i : Attempt = attempt born_mid.0.born.object number in
            elim (among-append_cases r.log (In g.event g.seat ∷ step.entries) (Accepted i)
            (subst (λ l. Among (Accepted i) l) (last_log r g step taken) (subst (λ (q : Part). Among (Accepted (attempt q.born.object number)) (after_event r g).log) same accepted))) [
              | inl old ↦ old
              | inr fresh ↦ absurd (accepts_none i (not_first i fresh))
            ]

-- whether the object is an own one or another worker's
pub new_waits_are_tended : EveryEvent NewWaitsAreTended
new_waits_are_tended s slots some slot apart gs right g step is taken calm = λ w a y new.
    at_test (λ t. (y.owner == w) ≡ t → NewWaitIsTended (happening s (after_events (opening_run s.nodes slots) gs) g step) w y) (y.owner == w)
    (λ _ e. tended s slots some slot apart gs right g step is taken calm w a y new (eqb-true y.owner w e))
    (λ _ e. record {
      foreign = new_foreign_waits_are_asked s slots some slot apart gs right g step is taken calm w a y new;
      own_put = λ own. absurd (other y.owner w own e);
      own_accepted = λ own. absurd (other y.owner w own e);
    }) refl
  where
    other : (m n : ℕ) → m ≡ n → (m == n) ≡ false → ⊥
    other m n f e = grind (arith, nat_tests)

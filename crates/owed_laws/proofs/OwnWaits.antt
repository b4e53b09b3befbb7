-- What a commit does that leaves its attempt to need an own object whose content is there. As long as nothing was killed or lost, the owner keeps
-- the content, or the primary copy is where it was made and the owner's table knows it: the attempt is answered at once or fetches.
use Rattle.std.proofs.Common.{[], ap, append-nil, arith, inl, inr, length, List, None, refl, Some, subst, sym, ℕ, ◌++◌, ◌+◌, ◌-◌, ◌∙◌, ◌∷◌, ◌≡◌, ◌≤◌}
use Rattle.std.specs.Prelude.{Bool, false, if◌then◌else◌, slice_get, true, ◌==◌, ◌||◌}
use Rattle.std.specs.List.{find, list_any}
use Rattle.std.specs.Option.{option_map}
use Rattle.std.proofs.lemmas.Bool.Decides.{nat_tests}
use Rattle.meaning.proofs.BirthLaws.{at_test, first_is_made}
use Rattle.meaning.specs.Births.{Part, birth_at, part_at}
use Rattle.event_log.specs.Words.{attempt, births, ends_of, worker_of}
use Rattle.owed_asks.specs.of_protocol_legal.Made.{EndsSmall, IsEndedAt, IsMadeAt, IsTaken}
use Rattle.owed_asks.specs.of_protocol_legal.Past.{past}
use Rattle.owed_replies.proofs.Quiet.{accepted_among, HasContentAt, IsHad, no_dead_nodes, no_run, node_alive, none_lost, none_lost_put, OfPut, OfTask, Origin}
use Rattle.owed_replies.proofs.Quiet.{origin, part_is, put_known, released_among, worker_alive}
use Rattle.meaning.specs.Mains.{KeepsMainApart}
use Rattle.meaning.specs.Meaning.{replay}
use Rattle.meaning.specs.Readings.{IsBorn}
use Rattle.meaning.specs.Runs.{Needs}
use Rattle.meaning.specs.Values.{Id, Named, Outcome, Put, Value}
use Rattle.event_log.specs.Commits.{commit_entries}
use Rattle.event_log.specs.Breaks.{Among}
use Rattle.event_log.specs.Entries.{Accepted, Attempt, Commit, Entry, In, Released}
use Rattle.event_log.specs.Events.{accepted_events, from_one, node_of, refused_next, worker_of_job}
use Rattle.event_log.specs.Legal as L
use Rattle.event_log.specs.Rules.{Setting}
use Rattle.event_log.specs.Sane.{Sane}
use Rattle.event_log.proofs.EventLaws.{accepted-event}
use Rattle.event_log.proofs.SaneLaws.{legal_logs_are_sane}
use Rattle.protocol.specs.Commits.{asks_where, bears_all, commit_by, commit_step, rests_if_waiting, stops_by, with_outcomes}
use Rattle.protocol.specs.Events.{with_committed}
use Rattle.protocol.specs.Jobs.{AtGet, JobRecord, Outcomes, stop_of}
use Rattle.protocol.specs.Nodes.{Node}
use Rattle.protocol.specs.Numbered.{changed_at, item_at}
use Rattle.protocol.specs.Releases.{release_step}
use Rattle.protocol.specs.Sets.{has, object_id, repeated}
use Rattle.protocol.specs.Stores.{Copy, copy_in, is_copy_of}
use Rattle.protocol.specs.Steps.{WorkerContext, logs_all, object_at, store_here, with_phase, with_run}
use Rattle.protocol.specs.Tables.{Object, Out, Execution, Waits, Worker, new_worker}
use Rattle.protocol.specs.Cluster.{ClusterState, after_worker, here, node_at, worker_at}
use Rattle.owed_asks.specs.of_protocol_legal.Done.{IsTrue}
use Rattle.owed_asks.specs.of_protocol_legal.During.{Frame, HearsNoDeath, SoundHere}
use Rattle.owed_asks.specs.of_protocol_legal.Frame.{Arrives}
use Rattle.owed_asks.specs.of_protocol_legal.Steps.{EventsOfWorkers, frame_of}
use Rattle.owed_asks.specs.of_protocol_legal.Steps as St
use Rattle.owed_asks.specs.of_protocol_legal.Whole.{Between, committed_in, setting_of}
use Rattle.owed_asks.proofs.of_protocol_legal.Bearing.{Ahead, Still, bears_sound, run_by}
use Rattle.owed_asks.proofs.of_protocol_legal.Committing.{Arrived, IsJobOf, commit_logged}
use Rattle.owed_asks.proofs.of_protocol_legal.FrameHolds.{steps_stay_legal}
use Rattle.owed_asks.proofs.of_protocol_legal.FrameIn.{any_join}
use Rattle.owed_asks.proofs.of_protocol_legal.FrameLists.{from_one_of}
use Rattle.owed_asks.proofs.of_protocol_legal.Notices.{heeds_still}
use Rattle.owed_asks.proofs.of_protocol_legal.OnlyMainPrints.{only_main_prints}
use Rattle.owed_asks.proofs.of_protocol_legal.Runs.{here_runs}
use Rattle.owed_asks.specs.of_protocol_laws.Sound.{IsSound}
use Rattle.protocol_owed.specs.Seen.{IsCalm, IsKnownAt, is_failure}
use Rattle.protocol_owed.proofs.Envelopes.{among-more}
use Rattle.protocol_owed.proofs.Nodes.{there_more}
use Rattle.owed_asks.proofs.of_lease_discipline.Heres.{changed_now}
use Rattle.owed_asks.proofs.of_lease_discipline.Told.{locations}
use Rattle.owed_replies.proofs.Advancing.{owner_has}
use Rattle.owed_replies.proofs.Known.{need_known}
use Rattle.owed_laws.proofs.OwnNeeds.{GoesOnHere, IsServed, answers_here, fetches_then, goes_on_then, own_where, serves}

found : (p : Copy → Bool) (xs ys : List Copy) → list_any p xs ≡ true → (x : Copy) × (find p (xs ++ ys) ≡ Some x)
found p [] ys e = absurd (cc)
found p (x ∷ xs) ys e = first (p x) (found p xs ys) e
  where
    first : (t : Bool) → (list_any p xs ≡ true → (u : Copy) × (find p (xs ++ ys) ≡ Some u)) → (t || list_any p xs) ≡ true → (u : Copy) × ((if t then Some x else find p (xs ++ ys)) ≡ Some u)
    first true rest e = (x, refl)
    first false rest e = rest e

module _ (s : Setting) (apart : KeepsMainApart s.script) (log : List Entry) (c : ClusterState) (sound : IsSound s log c) (calm : IsCalm log) (j seat : ℕ) (d : Outcomes)
    (g : JobRecord) (job_at : item_at c.jobs j ≡ Some g) (fresh : g.is_committed ≡ false) (x : Worker) (there : worker_at c g.worker ≡ Some x) (lives : x.is_live ≡ true)
    (run : Execution) (at : x.run ≡ Some run) (out : run.phase ≡ Out j) (done : IsTrue (setting_of s c) run d) where
  abbrev pub S : Setting
  S = setting_of s c

  pub b : Between s log c
  b = sound.between

  on_workers : EventsOfWorkers s log c b
  on_workers = steps_stay_legal.workers s log c b

  abbrev pub home : (node : Node) × (node_at c x.node ≡ Some node) × (node.is_live ≡ true)
  home = b.knows.housed g.worker x there lives

  abbrev pub f : Frame
  f = frame_of s log c b (Commit j) seat g.worker

  abbrev pub start : WorkerContext
  start = here c g.worker x home.0

  claimed : worker_of_job j log ≡ Some g.worker
  claimed = ap (λ (ws : List ℕ). from_one ws j) b.knows.claims ∙ from_one_of (λ (i : JobRecord). i.worker) c.jobs j g job_at

  taken : St.IsTaken s log c (Commit j) g.worker x home.0
  taken = record {
    at = there;
    lives = lives;
    home = home.1;
    own = record { own = claimed; spares = λ v n. refl; spares_nodes = λ n. refl; brings_none = refl };
  }

  arrives : Arrives f start
  arrives = on_workers.enters (Commit j) seat g.worker x home.0 taken

  arrived : Arrived f start
  arrived = record {
    legal = arrives.legal;
    calm = arrives.calm;
    now = arrives.now;
    lives = arrives.lives;
    count = arrives.count;
    node_lives = arrives.node_lives;
    opens = arrives.opens;
    worker_lives = arrives.worker_lives;
    node = arrives.node;
    home = arrives.home;
    knows = on_workers.knows_at_once (Commit j) seat g.worker x home.0 arrives (λ u. refl);
    grows = arrives.grows;
  }

  is_job : IsJobOf f j start run d
  is_job = record {
    is = at;
    out = out;
    claimed = claimed;
    once = b.knows.commits j ∙ ap committed_in job_at ∙ fresh;
    lives = arrives.lived;
    closed = arrives.closed;
    done = record {
      replayed = done;
      of_main = only_main_prints S apart log g.worker x run d b.legal ((b.knows.workers g.worker x there lives).run run at) done;
    };
  }

  abbrev pub logged : WorkerContext
  logged = logs_all (with_run start (with_outcomes run d))
      (commit_entries run.attempt (object_id g.worker (length x.objects + 1)) d.births d.prints (stop_of d.stop))

  abbrev pub borne : WorkerContext
  borne = bears_all logged run.attempt d.births

  pub ahead : Ahead f run.attempt x.node [] (stop_of d.stop) borne × ((m : ℕ) × Still g.worker x.node m (with_outcomes run d) borne)
  ahead = bears_sound f run.attempt x.node (stop_of d.stop) g.worker (with_outcomes run d) d.births (length x.objects) logged
      (commit_logged j S log seat b.asked f.anchor start run d arrived is_job)
      (record { me = refl; node = refl; count = refl; holds = run.holds; runs = refl })

  pub stays_calm : (es : List Entry) → L.has_event es ≡ false → IsCalm (log ++ In (Commit j) seat ∷ es)
  stays_calm es none =
      ap (list_any is_failure) (accepted-event log (Commit j) seat es none) ∙ any_join is_failure (accepted_events log) (if refused_next es then [] else Commit j ∷ []) ∙
      ap (λ t. t || list_any is_failure (if refused_next es then [] else Commit j ∷ [])) calm ∙
      at_test (λ t. list_any is_failure (if t then [] else Commit j ∷ []) ≡ false) (refused_next es) (λ _. refl) (λ _. refl)

  module _ (y : Id) (stop : d.stop ≡ AtGet y) where
    abbrev pub later : Execution
    later = record (with_outcomes run d) { holds = ahead.1.1.holds }

    abbrev pub mid : WorkerContext
    mid = with_phase borne later (Waits y None)

    abbrev pub log_mid : List Entry
    log_mid = log ++ In (Commit j) seat ∷ borne.there.out.entries

    pub committed : commit_step start d ≡ rests_if_waiting (asks_where mid y) y
    committed = ap (commit_by start d) at ∙ ap (λ t. stops_by borne t borne.worker.run) stop ∙ ap (stops_by borne (AtGet y)) ahead.1.1.runs

    at_need : Ahead f run.attempt x.node [] (Needs (Named y)) borne
    at_need = subst (λ t. Ahead f run.attempt x.node [] (stop_of t) borne) stop ahead.0

    ready : SoundHere f at_need.0 (with_run borne later)
    ready =
        subst (λ os. SoundHere f at_need.0 (record borne { worker = record borne.worker { objects = os; run = Some later } })) (append-nil borne.worker.objects)
        (subst (λ z. SoundHere f at_need.0 (record borne { worker = record borne.worker { objects = borne.worker.objects ++ []; run = run_by (Needs (Named y)) z } }))
        ahead.1.1.runs at_need.1)

    pub calm_mid : IsCalm log_mid
    calm_mid = stays_calm borne.there.out.entries ready.there.may.no_event

    none_dead : (v : ℕ) → has borne.worker.dead_workers v ≡ false
    none_dead v =
        at_test (λ t. has borne.worker.dead_workers v ≡ t → has borne.worker.dead_workers v ≡ false) (has borne.worker.dead_workers v)
        (λ _ e. absurd (worker_alive log_mid calm_mid v (ready.knows.dead v e))) (λ _ e. e) refl

    needed : replay S.script run.spec run.base run.answers ≡ record { births = run.births ++ d.births; prints = run.prints ++ d.prints; stop = Needs (Named y) }
    needed = done ∙ ap (λ t. record { births = run.births ++ d.births; prints = run.prints ++ d.prints; stop = stop_of t }) stop

    waits : SoundHere f at_need.0 mid
    waits =
        let k = ready.knows.run later refl in
        here_runs f at_need.0 (with_run borne later) ready later (record later { phase = Waits y None }) refl refl (record {
          runs = k.runs;
          listed = k.listed;
          spec = k.spec;
          base = k.base;
          own = k.own;
          prints = k.prints;
          answers = k.answers;
          phase = (record { ended = k.phase.ended; faulted = k.phase.faulted; next = k.phase.next }, needed, inl (none_dead y.owner), tt);
          over = λ o. absurd (not_over (k.over o));
          holds = k.holds;
        })
      where
        not_over : false ≡ true → ⊥
        not_over e = cc

    deaf : HearsNoDeath f
    deaf v e = cc

    abbrev pub after_mid : ClusterState
    after_mid = (after_worker (record c { jobs = (with_committed c j 0).jobs; made = c.made; delivered = c.delivered }) g.worker x.node mid).whole

    between : Between s log_mid after_mid
    between = on_workers.leaves (Commit j) seat g.worker x home.0 taken (with_committed c j 0).jobs c.made c.delivered (on_workers.job_committed j g job_at) mid
        (record { asked = at_need.0; sound = waits; heeds = heeds_still f deaf at_need.0 mid waits })

    there_mid : worker_at after_mid g.worker ≡ Some mid.worker
    there_mid = there_more (changed_at c.workers g.worker (λ _. mid.worker)) (repeated mid.there.opened (new_worker x.node)) g.worker mid.worker
        (changed_now c.workers g.worker x mid.worker there)

    pub born_mid : IsBorn (births log_mid) y
    born_mid = need_known s log_mid after_mid between g.worker mid.worker (record later { phase = Waits y None }) there_mid waits.worker_lives refl y refl

    pub sane_mid : Sane log_mid
    sane_mid = legal_logs_are_sane (setting_of s after_mid) log_mid between.legal

    module _ (own : y.owner ≡ g.worker) (some : 1 ≤ y.serial) (unreleased : Among (Released y) log_mid → ⊥) where
      at_owner : worker_at after_mid y.owner ≡ Some mid.worker
      at_owner = subst (λ v. worker_at after_mid v ≡ Some mid.worker) (sym own) there_mid

      object : (z : Object) × (item_at mid.worker.objects y.serial ≡ Some z)
      object = owner_has s log_mid after_mid between y born_mid mid.worker at_owner waits.worker_lives some

      is_own : (y.owner == mid.me) ≡ true
      is_own = same y.owner mid.me (own ∙ sym waits.who)
        where
          same : (m n : ℕ) → m ≡ n → (m == n) ≡ true
          same m n e = grind (arith, nat_tests)

      item : object_at mid y ≡ Some object.0
      item = ap (λ t. if t then item_at mid.worker.objects y.serial else None) is_own ∙ object.1

      not_taken : (number n : ℕ) → (EndsSmall log_mid y number → ⊥) → IsTaken log_mid y number n → ⊥
      not_taken number n big (inl released) = unreleased (released_among s log_mid after_mid between calm_mid y released)
      not_taken number n big (inr (inl (put, inl lost))) = none_lost_put log_mid calm_mid lost.before lost.after n y lost.parts lost.lost
      not_taken number n big (inr (inl (put, inr killed))) = node_alive log_mid calm_mid n killed
      not_taken number n big (inr (inr (ended, inl lost))) = none_lost log_mid calm_mid _ lost.2
      not_taken number n big (inr (inr (ended, inr small))) = big small

      -- what was made on the own node, and isn't small, is in its store
      stored : (number n : ℕ) → (EndsSmall log_mid y number → ⊥) → IsMadeAt log_mid y number n → n ≡ mid.worker.node → (o : Outcome) × (copy_in (store_here mid) y number ≡ Some o)
      stored number n big made here_too =
          let here_made : IsMadeAt log_mid y number mid.there.number = subst (IsMadeAt log_mid y number) (here_too ∙ waits.at_home) made in
          elim (waits.there.node.store.kept y number here_made) [
            | inl kept ↦
                let u = found (is_copy_of y number) (store_here mid).primaries (store_here mid).secondaries kept in
                (u.0.content, ap (option_map (λ (z : Copy). z.content)) u.1)
            | inr gone ↦ absurd (not_taken number mid.there.number big gone)
          ]

      module _ (number n : ℕ) (known : IsKnownAt log_mid y number n) (made : IsMadeAt log_mid y number n) where
        had : IsHad log_mid y object.0 number n
        had = put_known s log_mid after_mid between calm_mid y mid.worker object.0 number n at_owner object.1 unreleased known

        content : HasContentAt object.0 number n
        content = had.0

        -- where the own node has the content, the attempt goes on
        pub own_answered : n ≡ mid.worker.node → GoesOnHere (release_step (commit_step start d))
        own_answered here_too =
            subst (λ h. GoesOnHere (release_step h)) (sym committed)
            (goes_on_then (asks_where mid y) y (own_where GoesOnHere mid y is_own
            (answers_here borne later y object.0 number n item content.unfaulted content.whole content.number_is content.place
            (no_dead_nodes s log_mid after_mid between calm_mid g.worker mid.worker there_mid) (λ none. stored number n (had.1 none) made) here_too)))

        -- it goes on, or fetches
        pub own_served : IsServed g.worker x.node y number (release_step (commit_step start d))
        own_served =
            let served : IsServed mid.me mid.worker.node y number (asks_where mid y) =
            own_where (IsServed mid.me mid.worker.node y number) mid y is_own (serves borne later y object.0 number n item content.unfaulted content.whole content.number_is content.place
            (no_dead_nodes s log_mid after_mid between calm_mid g.worker mid.worker there_mid) (λ none. stored number n (had.1 none) made)) in
            subst (λ h. IsServed g.worker x.node y number (release_step h)) (sym committed)
            (elim (subst (λ m. IsServed g.worker m y number (asks_where mid y)) ahead.1.1.node (subst (λ w. IsServed w mid.worker.node y number (asks_where mid y)) waits.who served)) [
              | inl goes ↦ inl (goes_on_then (asks_where mid y) y goes)
              | inr fetches ↦ inr (fetches_then g.worker x.node (asks_where mid y) y number fetches)
            ])

      -- a put is on its owner's node
      pub put_answered : (v : Value) → birth_at (births log_mid) y ≡ Some (Put v) → GoesOnHere (release_step (commit_step start d))
      put_answered v born =
          let place : node_of y.owner log_mid ≡ Some mid.worker.node = ap (λ w. node_of w log_mid) own ∙ locations s log_mid after_mid between g.worker mid.worker there_mid in
          own_answered 0 mid.worker.node (inl (record { value = v; put = born; first = refl; place = place }))
          (inl (record { value = v; born = born; part = put_part v born; first = refl; home = place })) refl
        where
          put_part : (u : Value) → birth_at (births log_mid) y ≡ Some (Put u) → part_at (births log_mid) y ≡ Some (record { born = record { object = y; birth = Put u }; place = 0 })
          put_part u e =
              sane_mid.grouped.whole y y (Put u) e (first_is_made (record { object = y; birth = Put u })) ∙
              ap (λ i. Some (record { born = record { object = y; birth = Put u }; place = i })) (none y.serial)
            where
              none : (m : ℕ) → m - m ≡ 0
              none m = omega arith

      -- an accepted end is where its attempt ran
      pub accepted_served : (number : ℕ) → Among (Accepted (attempt born_mid.0.born.object number)) log →
          IsServed g.worker x.node y number (release_step (commit_step start d))
      accepted_served number i =
          let first : Id = born_mid.0.born.object in
          let a : Attempt = attempt first number in
          let accepted : Among (Accepted a) log_mid = among-more log (In (Commit j) seat ∷ borne.there.out.entries) (Accepted a) i in
          let heard = accepted_among s log_mid after_mid between calm_mid a accepted in
          let ended = sane_mid.accepted a heard.0 a heard.1 in
          let ran = sane_mid.ended a ended.1.0 ended.0 ended.1.1 in
          let node = sane_mid.opened first number ran.0 ran.1 in
          let known : IsKnownAt log_mid y number node.0 = inr (record { part = born_mid.0; born = born_mid.1; accepted = accepted; worker = ran.0; ran = ran.1; place = node.1 }) in
          let had = put_known s log_mid after_mid between calm_mid y mid.worker object.0 number node.0 at_owner object.1 unreleased known in
          own_served number node.0 known (inr (made number node.0 ran.0 ran.1 node.1 had.0.settled (origin s log_mid after_mid between calm_mid y mid.worker object.0 at_owner object.1)))
        where
          made : (number n w : ℕ) → worker_of (attempt born_mid.0.born.object number) log_mid ≡ Some w → node_of w log_mid ≡ Some n → object.0.settled ≡ Some number →
              Origin (past log_mid between.asked) y mid.worker object.0 → IsEndedAt log_mid y number n
          made number n w ran home settled (OfPut q) = absurd (no_run s log_mid after_mid between calm_mid y mid.worker object.0 born_mid.0 number w at_owner object.1 q born_mid.1 ran)
          made number n w ran home settled (OfTask m) =
              let same = part_is s log_mid after_mid between calm_mid y mid.worker object.0 m born_mid.0 born_mid.1 in
              let was = m.result.made number settled in
              record {
                part = born_mid.0;
                worker = w;
                runs = ran;
                home = home;
                content = was.content;
                result = record {
                  born = born_mid.1;
                  contents = was.contents;
                  ended = subst (λ (p : Part). Among was.contents (ends_of (attempt p.born.object number) log_mid)) (sym same) was.ended;
                  content = ap (λ (p : Part). slice_get was.contents p.place) same ∙ was.has;
                };
              }

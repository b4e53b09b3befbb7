-- At an acceptance the owner's own attempt, if it waits, is answered or fetches.
use Rattle.std.proofs.Common.{[], ap, inl, inr, None, Option, refl, Some, subst, suc, sym, ℕ, ◌++◌, ◌+◌, ◌-◌, ◌∙◌, ◌∷◌, ◌≡◌, ◌≢◌, ◌⊎◌}
use Rattle.std.specs.Prelude.{Bool, true, false}
use Rattle.std.specs.Option.{unwrap_or}
use Rattle.meaning.proofs.BirthLaws.{same_id-true}
use Rattle.meaning.specs.Births.{same_id}
use Rattle.meaning.specs.Values.{Id, Outcome}
use Rattle.event_log.specs.Breaks.{Among}
use Rattle.event_log.specs.Entries.{Accepted, Attempt, Event, Got, In}
use Rattle.event_log.specs.Rules.{Setting}
use Rattle.event_log.specs.Words.{attempt}
use Rattle.protocol.specs.Answers.{Step, Takes, answer}
use Rattle.protocol.specs.Deliveries.{reached}
use Rattle.protocol.specs.Ends.{finished_reached}
use Rattle.protocol.specs.Jobs.{CommitInput}
use Rattle.protocol.specs.Messages.{Fetch, Finished, envelope, Envelope, TheNode, TheWorker}
use Rattle.protocol.specs.Locations.{answers_settled}
use Rattle.protocol.specs.Locations.{needs_own_if_waiting, tells_locations}
use Rattle.protocol.specs.Releases.{release_step}
use Rattle.protocol.specs.Sets.{object_id}
use Rattle.protocol.specs.Stores.{looked_up}
use Rattle.protocol.specs.Steps.{changes, WorkerContext, own_id, own_object, store_here, with_phase, with_store}
use Rattle.protocol.specs.Tables.{is_same_id, is_waiting_for, needed_by, Object, object_needed}
use Rattle.protocol.specs.Tables.{Execution, settled_number, Waits, without_askers}
use Rattle.protocol.specs.Tables.{Worker}
use Rattle.protocol.specs.Cluster.{ClusterState, here, worker_at}
use Rattle.lease_discipline.specs.of_protocol_legal.Whole.{Between, setting_of}
use Rattle.protocol_owed.specs.Replies.{AcceptedIsUsed, Happening, IsGot, SaysFetch}
use Rattle.protocol_owed.specs.Runs.{Running}
use Rattle.protocol_owed.specs.Seen.{AcceptedAt, IsCalm}
use Rattle.protocol_owed.proofs.Envelopes.{among-behind, among-last}
use Rattle.protocol_owed.proofs.Replying.{gets_it, Logged, logged_after, logged_stays, Sent, sent_after, sent_stays}
use Rattle.lease_discipline.specs.Told.{IsInStep}
use Rattle.owed_replies.specs.Law.{happening}
use Rattle.owed_replies.proofs.Advancing.{IsBrought}
use Rattle.owed_replies.proofs.Delivered.{delivered_out}
use Rattle.owed_replies.proofs.Answering.{IsThere, answer_is, dead_still, owner_looks, place_is, stored_there, tells-me, tells-worker, told_item, whole_still}
use Rattle.protocol_owed.proofs.Moves as M
use Rattle.event_log.proofs.SaneLaws.{legal_logs_are_sane}
use Rattle.owed_replies.proofs.Replies.{IsAccepted, IsEnd, IsRowOf, Pends, Stage, as_delivery, end_of, more_opened, more_runs, node_lives, not_twice, row_answered, row_in, stage}
use Rattle.owed_replies.proofs.Runs.{RunReplies}
use Rattle.owed_replies.proofs.Waiting.{IsWaiting, waits_so}

-- ---- the owner looks for a content that is there

-- it is answered, or fetches that content from the node
abbrev pub IsServed : Execution → ℕ → ℕ → ℕ → Id → WorkerContext → Type 0
IsServed run number n me y g = ((d : Outcome) × Logged (Got run.attempt y d) g) ⊎ Sent (envelope (TheWorker me) (TheNode n) (Fetch y number)) g

served_stays : (run : Execution) (number n me : ℕ) (y : Id) (h : WorkerContext) (o : Id) → IsServed run number n me y h →
    IsServed run number n me y (answers_settled h o)
served_stays run number n me y h o (inl q) = inl (q.0, M.answers_settled-kept (Logged (Got run.attempt y q.0)) (logged_stays (Got run.attempt y q.0)) h o q.1)
served_stays run number n me y h o (inr q) =
    let l : Envelope = envelope (TheWorker me) (TheNode n) (Fetch y number) in
    inr (M.answers_settled-kept (Sent l) (sent_stays l) h o q)

module _ (s : Setting) (r : Running) (k : RunReplies s r) (calm : IsCalm r.log) where
  abbrev c : ClusterState
  c = r.whole

  abbrev b : Between s r.log r.whole
  b = k.step.sound.between

  -- the answer to what the owner's own attempt waits for
  answer_serves : (h : WorkerContext) (number n t : ℕ) (z : Object) (run : Execution) → own_object h t ≡ Some z → IsThere h number n t z → h.worker.dead_nodes ≡ [] → h.worker.run ≡ Some run →
      object_needed run.phase ≡ Some (own_id h t) → IsServed run number n h.me (own_id h t) (answers_settled h (own_id h t))
  answer_serves h number n t z run at there no_dead is needs =
      let o : Id = own_id h t in
      let f : WorkerContext = changes h o without_askers in
      let told : WorkerContext = tells_locations f z.askers o z in
      let same : told.worker ≡ f.worker = tells-worker f z.askers o z in
      let me_same : told.me ≡ h.me = tells-me f z.askers o z in
      let number_is : settled_number z ≡ number = ap (λ s. unwrap_or s 0) there.settled in
      let now : IsServed run number n told.me o (needs_own_if_waiting told o) =
      owner_looks (IsServed run number n told.me o) told o (without_askers z) run number n (ap (λ (x : Worker). x.run) same ∙ is) (told_item h number n t z at there no_dead) there.unfaulted
      (whole_still h number n t z at there no_dead) number_is (place_is h number n t z at there no_dead) (dead_still h number n t z at there no_dead)
      (stored_there h number n t z at there no_dead)
      (λ y e d. inl (d, gets_it (with_phase told run (Waits y None)) (record run { phase = Waits y None }) d o refl (ap (λ i. Some i) e)))
      (λ y e d. inl (d, gets_it (with_store (with_phase told run (Waits y None)) (looked_up (store_here told) o (settled_number z))) (record run { phase = Waits y None }) d o refl (ap (λ i. Some i) e)))
      (λ y e. inr (subst (λ i. Among (envelope (TheWorker told.me) (TheNode n) (Fetch o i)) (told.there.out.envelopes ++ envelope (TheWorker told.me) (TheNode n) (Fetch o (settled_number z)) ∷ []))
      number_is (among-last told.there.out.envelopes (envelope (TheWorker told.me) (TheNode n) (Fetch o (settled_number z)))))) needs in
      subst (IsServed run number n h.me o) (sym (answer_is h number n t z at there no_dead)) (subst (λ w. IsServed run number n w o (needs_own_if_waiting told o)) me_same now)

  module _ (e : Event) (seat : ℕ) (handed : CommitInput) (step : Step) (answered : answer c e handed ≡ Takes step) where
    abbrev hap : Happening
    hap = happening s r e seat step

    same_worker : (p q : Worker) → ◌≡◌ {A = Option Worker} (Some p) (Some q) → p ≡ q
    same_worker p q f = cc

    pub used_owed : ((a : Attempt) → Among (Accepted a) step.entries → IsBrought c e a) → IsInStep s (r.log ++ In e seat ∷ step.entries) step.whole → AcceptedIsUsed hap
    used_owed brought after y part number a born logged waits =
        let d : Attempt = attempt part.born.object number in
        let f : IsBrought c e d = brought d logged in
        let q : IsEnd s r k calm f.number f.sender f.owner d f.node f.results = end_of s r k calm f.number f.sender f.owner d f.node f.results f.sent in
        let out = delivered_out c f.number handed step (TheWorker f.sender) f.owner (Finished d f.node f.results) q.worker q.node f.sent q.there q.lives q.home
        (as_delivery s r k calm e seat handed step answered f.number f.event) in
        by_stage f q out.0 out.1 (waits_so s r k calm y.owner a y waits) (stage s r k calm f.owner d f.node q.own q.ended q.worker q.there q.lives q.object q.item)
      where
        d : Attempt
        d = attempt part.born.object number

        by_stage : (f : IsBrought c e d) (q : IsEnd s r k calm f.number f.sender f.owner d f.node f.results) →
            step.entries ≡ (release_step (reached (here c f.owner q.worker q.node) (TheWorker f.sender) (Finished d f.node f.results))).there.out.entries →
            step.envelopes ≡ (release_step (reached (here c f.owner q.worker q.node) (TheWorker f.sender) (Finished d f.node f.results))).there.out.envelopes →
            IsWaiting s r k calm y.owner a y → Stage s r k calm d q.worker q.object → IsGot hap a y ⊎ ((n : ℕ) × AcceptedAt (r.log ++ In e seat ∷ step.entries) y number n × SaysFetch hap y.owner n y number)
        by_stage f q entries envelopes w (IsAccepted i) = absurd (not_twice s r k calm e seat handed step answered d after logged i)
        by_stage f q entries envelopes w (Pends task made present knows unaccepted only) =
            elim result [
              | inl g ↦ inl (
                g.0,
                subst (λ x. Among (Got x y g.0) step.entries) w.present
                    (subst (λ es. Among (Got w.run.attempt y g.0) es) (sym entries) (logged_after (Got w.run.attempt y g.0) (finished_reached h f.sender d f.node f.results) g.1)),
              )
              | inr g ↦ inr (
                f.node,
                ran_there,
                subst (λ v. Among (envelope (TheWorker v) (TheNode f.node) (Fetch y number)) step.envelopes) (q.own ∙ row.owner)
                    (subst (λ ls. Among (envelope (TheWorker f.owner) (TheNode f.node) (Fetch y number)) ls) (sym envelopes)
                    (sent_after (envelope (TheWorker f.owner) (TheNode f.node) (Fetch y number)) (finished_reached h f.sender d f.node f.results) g)),
              )
            ]
          where
            place : ℕ
            place = y.serial - part.born.object.serial

            h : WorkerContext
            h = here c f.owner q.worker q.node

            ran_there : AcceptedAt (r.log ++ In e seat ∷ step.entries) y number f.node
            ran_there = record {
              part = part;
              born = born;
              accepted = among-behind r.log (In e seat ∷ step.entries) (Accepted d) (suc logged.0, logged.1);
              worker = q.ended.worker;
              ran = more_runs s r k calm e seat handed step answered d (In e seat ∷ step.entries) q.ended.worker q.ended.runs;
              place = more_opened s r k calm e seat handed step answered q.ended.worker (In e seat ∷ step.entries) f.node q.ended.home;
            }

            row : IsRowOf s r k calm e seat handed step answered d task.spec y place
            row = row_in s r k calm e seat handed step answered (In e seat ∷ step.entries)
                (legal_logs_are_sane (setting_of s step.whole) (r.log ++ In e seat ∷ step.entries) after.sound.between.legal) y part born task.spec knows.spec number

            lives : q.node.is_live ≡ true
            lives = node_lives s r k calm e seat handed step answered f.owner q.worker q.there q.lives q.node q.home

            at_owner : worker_at c y.owner ≡ Some q.worker
            at_owner = subst (λ v. worker_at c v ≡ Some q.worker) (q.own ∙ row.owner) q.there

            run_is : q.worker.run ≡ Some w.run
            run_is = ap (λ (x : Worker). x.run) (sym (same_worker w.worker q.worker (sym w.there ∙ at_owner))) ∙ w.at

            row_is : (g : WorkerContext) → g.me ≡ f.owner → own_id g (d.object.serial + place) ≡ y
            row_is g me = ap (λ v. object_id v (d.object.serial + place)) (me ∙ q.own ∙ row.owner) ∙ ap (object_id y.owner) (sym row.serial)

            -- no other object is waited for
            not_other : (g : WorkerContext) (j : ℕ) → j ≢ d.object.serial + place → g.worker.run ≡ Some w.run → is_waiting_for g.worker (own_id g j) ≡ false
            not_other g j apart is = by_test (is_waiting_for g.worker (own_id g j)) refl
              where
                needed : is_waiting_for g.worker (own_id g j) ≡ same_id y (own_id g j)
                needed = ap (λ o. is_same_id (needed_by o) (own_id g j)) is ∙ ap (λ o. is_same_id o (own_id g j)) w.needs

                by_test : (t : Bool) → is_waiting_for g.worker (own_id g j) ≡ t → is_waiting_for g.worker (own_id g j) ≡ false
                by_test false e = e
                by_test true e =
                    let same : y ≡ own_id g j = same_id-true y (own_id g j) (sym needed ∙ e) in
                    absurd (apart (sym (ap (λ (o : Id). o.serial) same) ∙ row.serial))

            result : IsServed w.run number f.node f.owner y (finished_reached h f.sender d f.node f.results)
            result = row_answered s r k calm f.owner d f.node q.own q.ended q.worker q.there q.lives f.results q.small task present knows unaccepted only q.node q.home
                lives f.sender (IsServed w.run number f.node f.owner y) (served_stays w.run number f.node f.owner y) (λ o. o ≡ Some w.run) place row.within
                (λ g g' j me apart l is. l.runs (not_other g j apart is) ∙ is)
                (λ g me there it no_dead is. subst (λ o. IsServed w.run number f.node f.owner o (answers_settled g (own_id g (d.object.serial + place)))) (row_is g me)
                (subst (λ v. IsServed w.run number f.node v (own_id g (d.object.serial + place)) (answers_settled g (own_id g (d.object.serial + place)))) me
                (answer_serves g number f.node (d.object.serial + place) _ w.run there it no_dead is (w.needs ∙ ap (λ i. Some i) (sym (row_is g me)))))) run_is q.object q.item made

-- Which messages a worker says in a step: Holds and Pushes of its own objects, or none of these.
use Rattle.std.proofs.Common.{[], ap, inl, inr, List, None, Option, refl, Some, subst, suc, sym, ℕ, ◌∙◌, ◌∷◌, ◌≡◌}
use Rattle.smallest_steps.proofs.Over.{each_from-kept}
use Rattle.protocol.specs.Steps.{WorkerContext, is_own, logs, logs_all, own_id, says, says_to_node, store_here, with_phase, with_run, with_store, with_worker}
use Rattle.meaning.specs.Runs.{next_id}
use Rattle.meaning.specs.Values.{Birth, Id, Outcome, Put, Task}
use Rattle.std.specs.Prelude.{Bool, true, false, if◌then◌else◌, not, ◌&&◌}
use Rattle.std.specs.List.{filter}
use Rattle.values.specs.Listed.{each_once, ids_in_outcome}
use Rattle.event_log.specs.Commits.{commit_entries}
use Rattle.event_log.specs.Breaks.{Among}
use Rattle.event_log.specs.Entries.{Attempt, Faulted, Got, main_attempt}
use Rattle.event_log.specs.Holding.{ids_of_birth}
use Rattle.event_log.specs.Words.{same_attempt}
use Rattle.protocol.specs.Commits.{bears, bears_all, commit_by, commit_step, next_id_here, stops, stops_by, each_holds, keeps_content, keeps_contents, task_objects, with_objects, with_outcomes}
use Rattle.protocol.specs.Holders.{awaits_hold_by, holding, holds_id, holds_ids, passes_on, sends_hold}
use Rattle.protocol.specs.Jobs.{AtEnd, AtGet, Outcomes, Stopped, stop_of}
use Rattle.protocol.specs.Messages.{Ask, At, Back, CopyOf, Elsewhere, Failed, Fetch, Finished, FinishedAck, Give, Gone, Hold, HoldAck, Envelope, envelope, Message}
use Rattle.protocol.specs.Messages.{Missing, Endpoint, Push, TheNode, TheWorker, Unhold, Wait, Where}
use Rattle.protocol.specs.Nodes.{NodeContext}
use Rattle.protocol.specs.Runs.{asks_for_slot, gives_slot_back, is_heard, leaves, leaves_by, leaves_if_free, tells, tells_stop, with_answer}
use Rattle.protocol.specs.Sets.{is_empty}
use Rattle.protocol.specs.Stores.{with_ended}
use Rattle.protocol.specs.Tables.{HasEnded, HasFaulted, Out, Phase, Ready, Execution, Waits, Worker, has_stopped, knows_dead, new_task, owner_of}
use Rattle.protocol_owed.proofs.Envelopes.{among-push_cases}
use Rattle.protocol_owed.proofs.NodeMoves.{IsKeptThere, asks_slot-kept, frees-kept}
use Rattle.owed_replies.proofs.Moves.{IsKeptWhere, IsSaid, asks_again-kept, needs-kept, sends_stop-kept, sends_tasks-kept}
use Rattle.protocol.specs.Ticks.{asks_again, sends_holds, sends_run, sends_stop, sends_tasks, tick_step}
use Rattle.smallest_steps.proofs.Untouched.{asks_again-worker, sends_tasks-worker}

-- Holds, if they are said, and Pushes of own objects, if they are said
abbrev pub Tells : Type 0 → Type 0 → ℕ → Message → Type 0
Tells holds pushes me (Hold e o) = holds
Tells holds pushes me (Push a spec) = (a.object.owner ≡ me) × pushes
Tells holds pushes me m = Unit {0}

module _ (holds pushes : Type 0) (me : ℕ) where
  abbrev T : Message → Type 0
  T = Tells holds pushes me

  -- what it said to workers so far
  pub record Speaks (h : WorkerContext) : Type 0 where
    pub who : h.me ≡ me
    pub said : (v : ℕ) (m : Message) → Among (envelope (TheWorker me) (TheWorker v) m) h.there.out.envelopes → T m
    -- no other worker does
    pub own : (w : ℕ) (l : Envelope) → Among l h.there.out.envelopes → l.sender ≡ TheWorker w → w ≡ me

  same_worker : (v w : ℕ) → TheWorker v ≡ TheWorker w → w ≡ v
  same_worker v w e = cc

  of_node : (n w : ℕ) → TheNode n ≡ TheWorker w → w ≡ me
  of_node n w e = absurd (cc)

  same_message : (v w : ℕ) (to : Endpoint) (m n : Message) → envelope (TheWorker me) (TheWorker v) m ≡ envelope (TheWorker w) to n → n ≡ m
  same_message v w to m n e = ap (λ (l : Envelope). l.message) (sym e)

  to_node : (v n : ℕ) (from : Endpoint) (m i : Message) → envelope (TheWorker me) (TheWorker v) m ≡ envelope from (TheNode n) i → ⊥
  to_node v n from m i e = let f : TheWorker v ≡ TheNode n = ap (λ (l : Envelope). l.receiver) e in absurd (cc)

  pub says_speaks : (h : WorkerContext) (w : ℕ) (m : Message) → T m → Speaks h → Speaks (says h w m)
  says_speaks h w m t p = record {
    who = p.who;
    said = λ v n i. elim (among-push_cases h.there.out.envelopes (envelope (TheWorker h.me) (TheWorker w) m) (envelope (TheWorker me) (TheWorker v) n) i) [
      | inl old ↦ p.said v n old
      | inr new ↦ subst T (same_message v h.me (TheWorker w) n m new) t
    ];
    own = λ u l i e. elim (among-push_cases h.there.out.envelopes (envelope (TheWorker h.me) (TheWorker w) m) l i) [
      | inl old ↦ p.own u l old e
      | inr new ↦ same_worker h.me u (ap (λ (x : Envelope). x.sender) (sym new) ∙ e) ∙ p.who
    ];
  }

  says_to_node_speaks : (h : WorkerContext) (n : ℕ) (m : Message) → Speaks h → Speaks (says_to_node h n m)
  says_to_node_speaks h n m p = record {
    who = p.who;
    said = λ v i j. elim (among-push_cases h.there.out.envelopes (envelope (TheWorker h.me) (TheNode n) m) (envelope (TheWorker me) (TheWorker v) i) j) [
      | inl old ↦ p.said v i old
      | inr new ↦ absurd (to_node v n (TheWorker h.me) i m new)
    ];
    own = λ u l j e. elim (among-push_cases h.there.out.envelopes (envelope (TheWorker h.me) (TheNode n) m) l j) [
      | inl old ↦ p.own u l old e
      | inr new ↦ same_worker h.me u (ap (λ (x : Envelope). x.sender) (sym new) ∙ e) ∙ p.who
    ];
  }

  by_said : (h : WorkerContext) (w : ℕ) (m : Message) → h.me ≡ me → IsSaid holds pushes h w m → T m
  by_said h w (Hold e o) who s = s.2
  by_said h w (Push a spec) who s = (s.0 ∙ who, s.1)
  by_said h w (Where y) who s = tt
  by_said h w (Missing y number n) who s = tt
  by_said h w (Finished b n rs) who s = tt
  by_said h w (At y number ns content) who s = tt
  by_said h w (Ask b t) who s = tt
  by_said h w (Give b t v) who s = tt
  by_said h w (Elsewhere b t n) who s = tt
  by_said h w (Wait b t) who s = tt
  by_said h w (Back b) who s = tt
  by_said h w (FinishedAck b) who s = tt
  by_said h w (Failed b f) who s = tt
  by_said h w (Gone y f) who s = tt
  by_said h w (Fetch y number) who s = tt
  by_said h w (CopyOf y number c) who s = tt
  by_said h w (HoldAck e o) who s = tt
  by_said h w (Unhold e o why) who s = tt

  record SpeaksThere (t : NodeContext) : Type 0 where
    said : (v : ℕ) (m : Message) → Among (envelope (TheWorker me) (TheWorker v) m) t.out.envelopes → T m
    own : (w : ℕ) (l : Envelope) → Among l t.out.envelopes → l.sender ≡ TheWorker w → w ≡ me

  of_worker : (n : ℕ) → TheWorker me ≡ TheNode n → ⊥
  of_worker n e = absurd (cc)

  there_kept : IsKeptThere SpeaksThere
  there_kept = record {
    opens = λ t w p. record { said = p.said; own = p.own };
    says = λ t w m p. record {
      said = λ v n i. elim (among-push_cases t.out.envelopes (envelope (TheNode t.number) (TheWorker w) m) (envelope (TheWorker me) (TheWorker v) n) i) [
        | inl old ↦ p.said v n old
        | inr new ↦ absurd (of_worker t.number (ap (λ (l : Envelope). l.sender) new))
      ];
      own = λ u l i e. elim (among-push_cases t.out.envelopes (envelope (TheNode t.number) (TheWorker w) m) l i) [
        | inl old ↦ p.own u l old e
        | inr new ↦ of_node t.number u (ap (λ (x : Envelope). x.sender) (sym new) ∙ e)
      ];
    };
    scheduler = λ t s p. record { said = p.said; own = p.own };
    store = λ t s p. record { said = p.said; own = p.own };
  }

  frees_speaks : (h : WorkerContext) → Speaks h → Speaks (gives_slot_back h)
  frees_speaks h p = let t = frees-kept SpeaksThere there_kept h.there h.me (record { said = p.said; own = p.own }) in record { who = p.who; said = t.said; own = t.own }

  asks_speaks : (h : WorkerContext) → Speaks h → Speaks (asks_for_slot h)
  asks_speaks h p = let t = asks_slot-kept SpeaksThere there_kept h.there h.me (record { said = p.said; own = p.own }) in record { who = p.who; said = t.said; own = t.own }

  pub quietly : (h g : WorkerContext) → g.me ≡ h.me → g.there.out.envelopes ≡ h.there.out.envelopes → Speaks h → Speaks g
  quietly h g f e p = record {
    who = f ∙ p.who;
    said = λ v m i. p.said v m (subst (λ ls. Among (envelope (TheWorker me) (TheWorker v) m) ls) e i);
    own = λ w l i. p.own w l (subst (λ ls. Among l ls) e i);
  }

  tells_stop_speaks : (h : WorkerContext) (run : Execution) (phase : Phase) → Speaks h → Speaks (tells_stop h run phase)
  tells_stop_speaks h run (HasEnded c) p = says_speaks h _ _ tt p
  tells_stop_speaks h run (HasFaulted f) p = says_speaks h _ _ tt p
  tells_stop_speaks h run Ready p = p
  tells_stop_speaks h run (Out j) p = p
  tells_stop_speaks h run (Waits y f) p = p

  leaves_speaks : (h : WorkerContext) → Speaks h → Speaks (leaves_if_free h)
  leaves_speaks h p = by_run h.worker.run
    where
      either : (b : Bool) (x y : WorkerContext) → Speaks x → Speaks y → Speaks (if b then x else y)
      either true x y q r = q
      either false x y q r = r

      by_run : (r : Option Execution) → Speaks (leaves_by h r)
      by_run None = p
      by_run (Some run) =
          let over : Execution = record run { is_over = true } in
          let told : Speaks (tells h over) = tells_stop_speaks (with_run h over) over over.phase (quietly h (with_run h over) refl refl p) in
          either (has_stopped run.phase && not run.is_over && is_empty run.holds) (leaves h over) h
          (either (same_attempt run.attempt main_attempt) (with_run h (record over { is_acknowledged = true }))
          (if knows_dead h.worker (owner_of over) then is_heard (tells h over) over else tells h over) (quietly h (with_run h (record over { is_acknowledged = true })) refl refl p)
          (either (knows_dead h.worker (owner_of over)) (is_heard (tells h over) over) (tells h over)
          (says_to_node_speaks (with_run (tells h over) (record over { is_acknowledged = true })) (tells h over).worker.node (Back run.attempt)
          (quietly (tells h over) (with_run (tells h over) (record over { is_acknowledged = true })) refl refl told)) told)) p

  pub speaks_kept : IsKeptWhere holds pushes Speaks
  speaks_kept = record {
    writes = λ h es quiet p. quietly h (logs_all h es) refl refl p;
    says = λ h w m s p. says_speaks h w m (by_said h w m p.who s) p;
    says_to_node = λ h n m p. says_to_node_speaks h n m p;
    objects = λ h ys g p. quietly h (with_worker h (record h.worker { objects = ys })) refl refl p;
    passes = λ h ks p. quietly h (with_worker h (record h.worker { passed_on = ks })) refl refl p;
    deaths = λ h vs ns p. quietly h (with_worker h (record h.worker { dead_workers = vs; dead_nodes = ns })) refl refl p;
    store = λ h s p. quietly h (with_store h s) refl refl p;
    frees = λ h p. frees_speaks h p;
    fetches = λ h run y f g e w p. quietly h (with_phase h run (Waits y g)) refl refl p;
    heard = λ h run e p. quietly h (with_run h (record run { is_acknowledged = true })) refl refl p;
    gets = λ h run c y f e w p. asks_speaks (logs (with_run h (with_answer run c)) (Got run.attempt y c))
        (quietly h (logs (with_run h (with_answer run c)) (Got run.attempt y c)) refl refl p);
    faults = λ h run f y g e w p.
        let k : WorkerContext = logs (with_phase h run (HasFaulted f)) (Faulted run.attempt y f) in
        leaves_speaks (gives_slot_back k) (frees_speaks k (quietly h k refl refl p));
    acknowledged = λ h run test e p. leaves_speaks (with_run h (record run { holds = filter test run.holds }))
        (quietly h (with_run h (record run { holds = filter test run.holds })) refl refl p);
  }

  -- ---- a tick of which no Hold waits

  pub quiet_tick : pushes → (h : WorkerContext) (run : Execution) → h.worker.run ≡ Some run → run.holds ≡ [] → Speaks h → Speaks (tick_step h)
  quiet_tick may h run at none p =
      let g : WorkerContext = sends_tasks h in
      let there : g.worker.run ≡ Some run = ap (λ (x : Worker). x.run) (sends_tasks-worker h) ∙ at in
      let again : WorkerContext = asks_again g run.phase in
      let asked : Speaks again = asks_again-kept Speaks speaks_kept g run run.phase there refl (sends_tasks-kept Speaks speaks_kept h may p) in
      subst (λ r. Speaks (sends_run g r)) (sym at)
      (subst (λ ks. Speaks (sends_stop (sends_holds again ks) run)) (sym none)
      (sends_stop-kept Speaks speaks_kept again run (ap (λ (x : Worker). x.run) (asks_again-worker g run.phase) ∙ there) asked))

  pub idle_tick : pushes → (h : WorkerContext) → h.worker.run ≡ None → Speaks h → Speaks (tick_step h)
  idle_tick may h at p = subst (λ r. Speaks (sends_run (sends_tasks h) r)) (sym at) (sends_tasks-kept Speaks speaks_kept h may p)

  -- ---- a commit

  module _ (may : holds) where
    either_speaks : (b : Bool) (x y : WorkerContext) → Speaks x → Speaks y → Speaks (if b then x else y)
    either_speaks true x y p q = p
    either_speaks false x y p q = q

    holds_id_speaks : (h : WorkerContext) (e o : Id) → Speaks h → Speaks (holds_id h e o)
    holds_id_speaks h e o p =
        either_speaks (is_own h o) _ _ (either_speaks (knows_dead h.worker e.owner) _ _ (quietly h _ refl refl p) (quietly h _ refl refl p))
        (either_speaks (knows_dead h.worker o.owner) h (sends_hold h e o) p (by_run h.worker.run))
      where
        by_run : (r : Option Execution) → Speaks (says (awaits_hold_by h (holding e o) r) o.owner (Hold e o))
        by_run None = says_speaks h o.owner (Hold e o) may p
        by_run (Some run) = says_speaks (awaits_hold_by h (holding e o) (Some run)) o.owner (Hold e o) may (quietly h (awaits_hold_by h (holding e o) (Some run)) refl refl p)

    holds_ids_speaks : (h : WorkerContext) (e : Id) (os : List Id) → Speaks h → Speaks (holds_ids h e os)
    holds_ids_speaks h e [] p = p
    holds_ids_speaks h e (o ∷ os) p = holds_ids_speaks (holds_id h e o) e os (holds_id_speaks h e o p)

    bears_speaks : (h : WorkerContext) (a : Attempt) (b : Birth) → Speaks h → Speaks (bears h a b)
    bears_speaks h a (Put v) p = holds_ids_speaks _ (next_id_here h) (each_once (ids_of_birth (Put v))) (quietly h _ refl refl p)
    bears_speaks h a (Task g args depth retries others) p =
        let spec : Birth = Task g args depth retries others in
        let ids = each_once (ids_of_birth spec) in
        let o : Id = next_id_here h in
        let x : WorkerContext = each_holds (with_objects h (task_objects a o.serial spec others ids)) o (new_task spec) ids in
        says_to_node_speaks _ _ _ (quietly x _ refl refl
        (each_from-kept Speaks (λ y k. holds_ids y (own_id y k) ids) (λ y k q. holds_ids_speaks y (own_id y k) ids q)
        (with_objects h (task_objects a o.serial spec others ids)) o.serial (suc others) (quietly h _ refl refl p)))

    bears_all_speaks : (h : WorkerContext) (a : Attempt) (bs : List Birth) → Speaks h → Speaks (bears_all h a bs)
    bears_all_speaks h a [] p = p
    bears_all_speaks h a (b ∷ bs) p = bears_all_speaks (bears h a b) a bs (bears_speaks h a b p)

    contents_speak : (cs : List Outcome) (h : WorkerContext) (o : Id) (number : ℕ) → Speaks h → Speaks (keeps_contents h o number cs)
    contents_speak [] h o number p = p
    contents_speak (c ∷ cs) h o number p =
        let ids : List Id = each_once (ids_in_outcome c) in
        let g : WorkerContext = passes_on (with_store h (with_ended (store_here h) o number c)) o ids in
        contents_speak cs (keeps_content h o number c) (next_id o) number (holds_ids_speaks g o ids (quietly h g refl refl p))

    stops_speaks : (h : WorkerContext) (stop : Stopped) → Speaks h → Speaks (stops h stop)
    stops_speaks h stop p = by_run h.worker.run stop
      where
        by_run : (r : Option Execution) (t : Stopped) → Speaks (stops_by h t r)
        by_run None t = p
        by_run (Some run) (AtGet y) = needs-kept Speaks speaks_kept h run y (quietly h (with_phase h run (Waits y None)) refl refl p)
        by_run (Some run) (AtEnd cs) =
            frees_speaks _ (leaves_speaks (keeps_contents (with_phase h run (HasEnded cs)) run.attempt.object run.attempt.number cs)
            (contents_speak cs (with_phase h run (HasEnded cs)) run.attempt.object run.attempt.number (quietly h (with_phase h run (HasEnded cs)) refl refl p)))

    pub commit_speaks : (h : WorkerContext) (d : Outcomes) → Speaks h → Speaks (commit_step h d)
    commit_speaks h d p = by_run h.worker.run
      where
        by_run : (r : Option Execution) → Speaks (commit_by h d r)
        by_run None = p
        by_run (Some run) =
            let g : WorkerContext = logs_all (with_run h (with_outcomes run d)) (commit_entries run.attempt (next_id_here h) d.births d.prints (stop_of d.stop)) in
            stops_speaks (bears_all g run.attempt d.births) d.stop (bears_all_speaks g run.attempt d.births (quietly h g refl refl p))

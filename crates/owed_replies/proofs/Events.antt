-- Events of a worker, and those of no worker, each bring the whole on.
use Rattle.std.proofs.Common.{◌≡◌, ◌≢◌, ℕ, zero, suc, List, [], ◌∷◌, ◌++◌, Some, None, Option, refl, ap, sym, subst, ◌∙◌, ◌⊎◌, inl, inr}
use Rattle.std.specs.Prelude.{Bool, true, false}
use Rattle.meaning.specs.Values.{Id, Outcome}
use Rattle.event_log.specs.Breaks.{Among}
use Rattle.event_log.specs.Entries.{Accepted, Attempt, Deliver, Ended, Entry, Event, In, Opened}
use Rattle.protocol.specs.Jobs.{JobRecord}
use Rattle.protocol.specs.Messages.{Envelope, Message, Endpoint, TheNode, TheWorker, envelope}
use Rattle.protocol.specs.Nodes.{Node, NodeContext}
use Rattle.protocol.specs.Numbered.{changed_at, item_at}
use Rattle.protocol.specs.Sets.{repeated}
use Rattle.protocol.specs.Steps.{WorkerContext}
use Rattle.protocol.specs.Releases.{release_step}
use Rattle.protocol.specs.Tables.{Object, Execution, Worker, new_worker}
use Rattle.protocol.specs.Cluster.{Transition, ClusterState, after_worker, here, worker_at}
use Rattle.protocol_owed.specs.Replies.{IsRequest}
use Rattle.protocol_owed.proofs.CourseEvents.{append_split, one_of}
use Rattle.protocol_owed.proofs.Envelopes.{among-more, among-nothing, among-push_cases}
use Rattle.protocol_owed.proofs.NodeMoves.{IsKeptThere}
use Rattle.protocol_owed.proofs.Nodes.{changed_cases, there_more}
use Rattle.protocol_owed.specs.Told.{attempt_by}
use Rattle.lease_discipline.proofs.Heres.{by_number, changed_elsewhere, changed_now}
use Rattle.owed_replies.specs.Kept.{IsAwaitedBy, IsGoingOn, IsOverInTime, IsRightBetween, IsRightEnvelope, KeepsReplies, RunIsRight}
use Rattle.owed_replies.proofs.Objects.{Grows, grows_itself}
use Rattle.owed_replies.proofs.Moves.{release_step-kept}
use Rattle.owed_replies.proofs.Paying.{Pays, pays_kept}
use Rattle.owed_replies.proofs.Advancing.{Advances, IsBrought, IsOfOld, IsPresent, born_more, known_more}

-- what is right of a run stays so, with more births and envelopes
pub run_right_more : (log es : List Entry) (net ls : List Envelope) (w : ℕ) (run : Execution) → RunIsRight log net w run → RunIsRight (log ++ es) (net ++ ls) w run
run_right_more log es net ls w run r = record {
  needs = λ y e foreign. known_more log es y (r.needs y e foreign);
  holds = λ k i. born_more log es k.object (r.holds k i);
  told = λ c e over other. let t = r.told c e over other in (t.0, t.1, among-more net ls _ t.2);
  main = r.main;
}

-- it is the present one then
abbrev pub IsOf : Worker → Attempt → Type 0
IsOf y a = attempt_by y.run ≡ Some a

-- ---- a worker's event

module _ (log : List Entry) (c : ClusterState) (e : Event) (seat : ℕ) (k : KeepsReplies log c) (jobs : List JobRecord) (made : ℕ) (delivered : List Bool)
    (me : ℕ) (x : Worker) (node : Node) (at : worker_at c me ≡ Some x) (live : x.is_live ≡ true) (f : WorkerContext → WorkerContext) where
  abbrev pub base : ClusterState
  base = record c { jobs = jobs; made = made; delivered = delivered }

  abbrev pub start : WorkerContext
  start = here base me x node

  abbrev pub final : WorkerContext
  final = release_step (f start)

  abbrev pub moved_on : Transition
  moved_on = after_worker base me x.node final

  abbrev pub logged_on : List Entry
  logged_on = log ++ In e seat ∷ final.there.out.entries

  abbrev pub Q : WorkerContext → Type 0
  Q = Pays logged_on c.network me x.objects (IsBrought c e) (IsOf final.worker)

  pub begins : Q start
  begins = record {
    does = record {
      who = refl;
      objects = grows_itself x.objects;
      run = λ run is. run_right_more log (In e seat ∷ final.there.out.entries) c.network [] me run (k.runs me x run at is);
      out = record { envelopes = λ l i. absurd (among-nothing l i); quiet = λ a i. absurd (among-nothing _ i); ended = λ a b i. absurd (among-nothing _ i) };
    };
    in_time = λ run is. k.in_time me x run at is;
  }

  module _ (step : Q (f start)) (lives : final.worker.is_live ≡ true)
      (asks : (i v : ℕ) (o : Id) (n : Message) → e ≡ Deliver i → item_at c.network i ≡ Some (envelope (TheWorker v) (TheWorker o.owner) n) → IsRequest o n →
      (o.owner ≡ me) × ((z : Object) → item_at final.worker.objects o.serial ≡ Some z → IsAwaitedBy v z))
      (stays : (run : Execution) → x.run ≡ Some run → run.is_over ≡ false → IsOf final.worker run.attempt) where
    ended : Q final
    ended = release_step-kept Q (pays_kept logged_on c.network me x.objects (IsBrought c e) (IsOf final.worker)) (f start) step

    -- whoever is there after the event
    data Who (w : ℕ) (y : Worker) : Type 0 where
      Actor : w ≡ me → final.worker ≡ y → Who w y
      Bystander : w ≢ me → worker_at c w ≡ Some y → Who w y
      Newcomer : new_worker x.node ≡ y → Who w y

    who : (w : ℕ) (y : Worker) → worker_at moved_on.whole w ≡ Some y → Who w y
    who w y is = elim (append_split (changed_at c.workers me (λ _. final.worker)) (repeated final.there.opened (new_worker x.node)) w y is) [
      | inl g ↦ elim (changed_cases c.workers me w (λ _. final.worker) y g) [
        | inl (same, _, _, h) ↦ Actor same (sym h)
        | inr (apart, h) ↦ Bystander apart h
      ]
      | inr (_, (i, g)) ↦ Newcomer (one_of i final.there.opened w (new_worker x.node) y g)
    ]

    there_now : worker_at moved_on.whole me ≡ Some final.worker
    there_now = there_more (changed_at c.workers me (λ _. final.worker)) (repeated final.there.opened (new_worker x.node)) me final.worker
        (changed_now c.workers me x final.worker at)

    runs_on : (w : ℕ) (y : Worker) (run : Execution) → Who w y → y.run ≡ Some run → RunIsRight logged_on (c.network ++ final.there.out.envelopes) w run × IsOverInTime run
    runs_on w y run (Actor same is) g =
        let h : final.worker.run ≡ Some run = ap (λ (z : Worker). z.run) is ∙ g in
        (subst (λ i. RunIsRight logged_on (c.network ++ final.there.out.envelopes) i run) (sym same) (ended.does.run run h), ended.in_time run h)
    runs_on w y run (Bystander apart is) g =
        (run_right_more log (In e seat ∷ final.there.out.entries) c.network final.there.out.envelopes w run (k.runs w y run is g), k.in_time w y run is g)
    runs_on w y run (Newcomer is) g = let h : None ≡ Some run = ap (λ (z : Worker). z.run) is ∙ g in absurd (cc)

    objects_on : (w : ℕ) (y : Worker) → Who w y → y.is_live ≡ true → IsOfOld c w y ⊎ (y.objects ≡ [])
    objects_on w y (Actor same is) g = inl (record {
      worker = x;
      there = subst (λ i. worker_at c i ≡ Some x) (sym same) at;
      lived = live;
      grows = subst (λ (z : Worker). Grows x.objects z.objects) is ended.does.objects;
    })
    objects_on w y (Bystander apart is) g = inl (record { worker = y; there = is; lived = g; grows = grows_itself y.objects })
    objects_on w y (Newcomer is) g = inr (sym (ap (λ (z : Worker). z.objects) is))

    same_worker : (u y : Worker) → ◌≡◌ {A = Option Worker} (Some u) (Some y) → u ≡ y
    same_worker u y h = cc

    going_on : (a : Attempt) → IsGoingOn c a → IsGoingOn moved_on.whole a ⊎ IsPresent moved_on.whole a
    going_on a g = elim (by_number g.number me) [
      | inl same ↦
          let is : x ≡ g.worker = same_worker x g.worker (sym at ∙ subst (λ i. worker_at c i ≡ Some g.worker) same g.there) in
          let run : x.run ≡ Some g.run = ap (λ (z : Worker). z.run) is ∙ g.at in
          inr (record { number = me; worker = final.worker; there = there_now; lives = lives; present = stays g.run run g.going ∙ ap (λ b. Some b) g.present })
      | inr apart ↦ inl (record {
        number = g.number;
        worker = g.worker;
        run = g.run;
        there = there_more (changed_at c.workers me (λ _. final.worker)) (repeated final.there.opened (new_worker x.node)) g.number g.worker
            (changed_elsewhere c.workers me g.number (λ _. final.worker) g.worker apart g.there);
        at = g.at;
        present = g.present;
        going = g.going;
      })
    ]

    asked_on : (i v : ℕ) (o : Id) (n : Message) → e ≡ Deliver i → item_at c.network i ≡ Some (envelope (TheWorker v) (TheWorker o.owner) n) → IsRequest o n →
        (y : Worker) (z : Object) → worker_at moved_on.whole o.owner ≡ Some y → y.is_live ≡ true → item_at y.objects o.serial ≡ Some z → IsAwaitedBy v z
    asked_on i v o n is sent request y z there lived item =
        let q = asks i v o n is sent request in
        let same : final.worker ≡ y = same_worker final.worker y (sym there_now ∙ subst (λ j. worker_at moved_on.whole j ≡ Some y) q.0 there) in
        q.1 z (subst (λ (u : Worker). item_at u.objects o.serial ≡ Some z) (sym same) item)

    pub worker_advances : Advances log c e seat moved_on
    worker_advances = record {
      network = refl;
      envelopes = ended.does.out.envelopes;
      runs = λ w y run is g. runs_on w y run (who w y is) g;
      objects = λ w y is g. objects_on w y (who w y is) g;
      asked = asked_on;
      goes_on = going_on;
      ended = λ a b i. record { number = me; worker = final.worker; there = there_now; lives = lives; present = ended.does.out.ended a b i };
      accepts = ended.does.out.quiet;
    }

-- ---- an event of no worker

-- its envelopes are a node's, and it accepts and ends nothing
pub record IsOfNode (t : NodeContext) : Type 0 where
  pub envelopes : (l : Envelope) → Among l t.out.envelopes → (n : ℕ) × (l.sender ≡ TheNode n)
  pub endless : (a : Attempt) (b : List Outcome) → Among (Ended a b) t.out.entries → ⊥
  pub accepts_none : (a : Attempt) → Among (Accepted a) t.out.entries → ⊥

pub of_node_kept : IsKeptThere IsOfNode
of_node_kept = record {
  opens = λ t w o. record {
    envelopes = o.envelopes;
    endless = λ a b i. elim (among-push_cases t.out.entries _ _ i) [ inl f ↦ o.endless a b f | inr f ↦ no_end a b w t.number f ];
    accepts_none = λ a i. elim (among-push_cases t.out.entries _ _ i) [ inl f ↦ o.accepts_none a f | inr f ↦ none a w t.number f ];
  };
  says = λ t w m o. record {
    envelopes = λ l i. elim (among-push_cases t.out.envelopes _ l i) [ inl f ↦ o.envelopes l f | inr f ↦ (t.number, ap (λ (x : Envelope). x.sender) f) ];
    endless = o.endless;
    accepts_none = o.accepts_none;
  };
  scheduler = λ t s o. record { envelopes = o.envelopes; endless = o.endless; accepts_none = o.accepts_none };
  store = λ t s o. record { envelopes = o.envelopes; endless = o.endless; accepts_none = o.accepts_none };
}
  where
    no_end : (a : Attempt) (b : List Outcome) (w n : ℕ) → Ended a b ≡ Opened w n → ⊥
    no_end a b w n f = absurd (cc)

    none : (a : Attempt) (w n : ℕ) → Accepted a ≡ Opened w n → ⊥
    none a w n f = absurd (cc)

-- a worker that is as before, but that it may have died
pub record IsLeft (c : ClusterState) (w : ℕ) (y : Worker) : Type 0 where
  pub worker : Worker
  pub there : worker_at c w ≡ Some worker
  pub lived : y.is_live ≡ true → worker.is_live ≡ true
  pub run : y.run ≡ worker.run
  pub objects : y.objects ≡ worker.objects

-- each worker is left, or new; and each one of before is there
pub record LeavesWorkers (c d : ClusterState) : Type 0 where
  pub back : (w : ℕ) (y : Worker) → worker_at d w ≡ Some y → IsLeft c w y ⊎ ((n : ℕ) × (new_worker n ≡ y))
  pub forth : (w : ℕ) (x : Worker) → worker_at c w ≡ Some x → (y : Worker) × (worker_at d w ≡ Some y) × (y.run ≡ x.run)

module _ (log : List Entry) (c : ClusterState) (e : Event) (seat : ℕ) (m : Transition) (k : KeepsReplies log c) (network : m.whole.network ≡ c.network ++ m.out.envelopes)
    (of_nodes : (l : Envelope) → Among l m.out.envelopes → (n : ℕ) × (l.sender ≡ TheNode n)) (endless : (a : Attempt) (b : List Outcome) → Among (Ended a b) m.out.entries → ⊥)
    (accepts_none : (a : Attempt) → Among (Accepted a) m.out.entries → ⊥)
    (leaves : LeavesWorkers c m.whole)
    (unheard : (i v : ℕ) (o : Id) (n : Message) (x : Worker) → e ≡ Deliver i → item_at c.network i ≡ Some (envelope (TheWorker v) (TheWorker o.owner) n) →
    worker_at c o.owner ≡ Some x → x.is_live ≡ true → ⊥) where
  abbrev next_log : List Entry
  next_log = log ++ In e seat ∷ m.out.entries

  right_of_node : (l : Envelope) (n : ℕ) → l.sender ≡ TheNode n → IsRightEnvelope next_log l
  right_of_node l n is = by_sender l.sender is
    where
      by_sender : (p : Endpoint) → p ≡ TheNode n → IsRightBetween next_log p l.receiver l.message
      by_sender (TheNode i) f = tt
      by_sender (TheWorker i) f = absurd (cc)

  pub quiet_advances : Advances log c e seat m
  quiet_advances = record {
    network = network;
    envelopes = λ l i. let q = of_nodes l i in right_of_node l q.0 q.1;
    runs = λ w y run is g. elim (leaves.back w y is) [
      | inl o ↦ old_run w y run o g
      | inr (n, f) ↦ absurd (new_run n y run f g)
    ];
    objects = λ w y is g. elim (leaves.back w y is) [
      | inl o ↦ inl (record { worker = o.worker; there = o.there; lived = o.lived g; grows = subst (λ ys. Grows o.worker.objects ys) (sym o.objects) (grows_itself o.worker.objects) })
      | inr (n, f) ↦ inr (sym (ap (λ (z : Worker). z.objects) f))
    ];
    asked = λ i v o n is sent request y z there lived item. elim (leaves.back o.owner y there) [
      | inl old ↦ absurd (unheard i v o n old.worker is sent old.there (old.lived lived))
      | inr (j, f) ↦ absurd (nothing j y z o.serial f item)
    ];
    goes_on = λ a g.
        let y = leaves.forth g.number g.worker g.there in
        inl (record { number = g.number; worker = y.0; run = g.run; there = y.1; at = y.2 ∙ g.at; present = g.present; going = g.going });
    ended = λ a b i. absurd (endless a b i);
    accepts = λ a i. absurd (accepts_none a i);
  }
    where
      old_run : (w : ℕ) (y : Worker) (run : Execution) → IsLeft c w y → y.run ≡ Some run → RunIsRight next_log m.whole.network w run × IsOverInTime run
      old_run w y run o g =
          let h : o.worker.run ≡ Some run = sym o.run ∙ g in (
            subst (λ ls. RunIsRight next_log ls w run) (sym network)
                (run_right_more log (In e seat ∷ m.out.entries) c.network m.out.envelopes w run (k.runs w o.worker run o.there h)),
            k.in_time w o.worker run o.there h,
          )

      new_run : (n : ℕ) (y : Worker) (run : Execution) → new_worker n ≡ y → y.run ≡ Some run → ⊥
      new_run n y run f g = let h : None ≡ Some run = ap (λ (z : Worker). z.run) f ∙ g in absurd (cc)

      nothing : (n : ℕ) (y : Worker) (z : Object) (j : ℕ) → new_worker n ≡ y → item_at y.objects j ≡ Some z → ⊥
      nothing n y z j f g = none_at j (ap (λ (u : Worker). item_at u.objects j) f ∙ g)
        where
          none_at : (i : ℕ) → item_at [] i ≡ Some z → ⊥
          none_at zero h = cc
          none_at (suc i) h = cc

-- No step takes its slot from a worker whose turn it is.
use Rattle.std.proofs.Common.{◌≡◌, ◌≢◌, ℕ, ◌+◌, List, [], ◌∷◌, ◌++◌, Some, None, Option, refl, ap, sym, subst, ◌∙◌, ◌⊎◌, inl, inr}
use Rattle.std.specs.Prelude.{length, true, if◌then◌else◌, ◌||◌, ◌==◌, nat_lt}
use Rattle.std.proofs.lemmas.Bool.{eqb-true}
use Rattle.sequence.proofs.Places.{list_any-push_left, or_cases}
use Rattle.meaning.proofs.BirthLaws.{at_test}
use Rattle.meaning.specs.Values.{Birth, Id, Outcome}
use Rattle.event_log.specs.Commits.{commit_entries}
use Rattle.event_log.specs.Entries.{Attempt, Entry, Faulted, Got}
use Rattle.protocol_laws.specs.of_protocol.Numbered.{item_at}
use Rattle.protocol_laws.specs.of_protocol.Sets.{first_item, has, least, repeated, rest_of}
use Rattle.protocol_laws.specs.of_protocol.Jobs.{AtEnd, AtGet, Outcomes, Stopped, stop_of}
use Rattle.protocol_laws.specs.of_protocol.Messages.{Message, Endpoint, TheWorker, TheNode, Ask, Give, Elsewhere, Wait, Back, Push, Finished, FinishedAck, Failed}
use Rattle.protocol_laws.specs.of_protocol.Messages.{Where, At, Gone, Fetch, CopyOf, Missing, Hold, HoldAck, Unhold}
use Rattle.protocol_laws.specs.of_protocol.Stores.{copy_in}
use Rattle.protocol_laws.specs.of_protocol.Nodes.{AskKey, AskReply, Scheduler, SentOn, NodeContext, with_scheduler}
use Rattle.protocol_laws.specs.of_protocol.Slots.{ask_key, asked_by, asks_slot, fetched, forgets, frees, gives_worker, grants, grants_next, grants_queued, has_free_slot}
use Rattle.protocol_laws.specs.of_protocol.Slots.{has_no_slot_for, leases_idle, may_be_idle}
use Rattle.protocol_laws.specs.of_protocol.Slots.{next_in_circle, node_reached, node_reached_from, queues, replies_anew, reply_to, with_answered, with_idle, without_slot}
use Rattle.protocol_laws.specs.of_protocol.Slots.{without_worker}
use Rattle.protocol_laws.specs.of_protocol.Tables.{Fetching, HasEnded, HasFaulted, Out, OwnTask, Execution, Waits, Worker, new_worker}
use Rattle.protocol_laws.specs.of_protocol.Steps.{WorkerContext, logs, logs_all, with_phase, with_run, with_task_of, with_worker}
use Rattle.protocol_laws.specs.of_protocol.Runs.{asks_for_slot, begins_run, gives_slot_back, leaves_if_free, with_answer}
use Rattle.protocol_laws.specs.of_protocol.Asking.{asks_at, rests, with_begun}
use Rattle.protocol_laws.specs.of_protocol.Tables.{AskedAt}
use Rattle.protocol_laws.specs.of_protocol.Commits.{bears_all, keeps_contents, task_objects, with_objects, claim_by, claim_step, commit_by, commit_step, ends, next_id_here, stops_by, with_outcomes}
use Rattle.protocol_laws.specs.of_protocol.Cluster.{ClusterState}
use Rattle.protocol_laws.specs.of_protocol_owed.Courses.{GoesOn, HasStopped, IsOut, Rests}
use Rattle.protocol_laws.proofs.of_protocol_owed.CourseEvents.{append_split, one_of}
use Rattle.protocol_laws.proofs.of_protocol_owed.Nodes.{there_more}
use Rattle.protocol_laws.specs.of_protocol_owed.Told.{pace_in, pace_by}
use Rattle.protocol_laws.proofs.of_protocol_owed.Sets.{has-last, has-stays}
use Rattle.protocol_laws.proofs.of_protocol_owed.TellingMore.{stopped_not, rests_not}
use Rattle.protocol_laws.proofs.of_smallest_steps.Smallest.{AnyPassed}
use Rattle.lease_discipline.specs.Discipline.{Look}
use Rattle.lease_discipline.specs.Slots.{HasTurn}
use Rattle.lease_discipline.proofs.Moves.{IsKept, bears_all-kept, keeps_contents-kept, leaves_if_free-kept, needs-kept}
use Rattle.lease_discipline.proofs.Heres.{at_me, at_other, by_number, look_here, look_with, workers_with}

-- ---- a node

-- t has a slot for whoever has one in s, and whoever asks for one in s has it or asks for it still; but for the worker w
pub record NoLossBut (b : ℕ → Type 0) (s t : Scheduler) : Type 0 where
  pub slot_holders : (w : ℕ) → b w → has s.slot_holders w ≡ true → has t.slot_holders w ≡ true
  pub answered : (w : ℕ) → b w → has s.answered w ≡ true → (has t.slot_holders w ≡ true) ⊎ (has t.answered w ≡ true)

abbrev pub Anyone : ℕ → Type 0
Anyone w = Unit {0}

abbrev pub NoLoss : Scheduler → Scheduler → Type 0
NoLoss s t = NoLossBut Anyone s t

none_lost : (s : Scheduler) → NoLoss s s
none_lost s = record { slot_holders = λ w _ e. e; answered = λ w _ e. inr e }

then_lost : (b : ℕ → Type 0) (s t u : Scheduler) → NoLossBut b s t → NoLossBut b t u → NoLossBut b s u
then_lost b s t u p q = record {
  slot_holders = λ w i e. q.slot_holders w i (p.slot_holders w i e);
  answered = λ w i e. elim (p.answered w i e) [ inl f ↦ inl (q.slot_holders w i f) | inr f ↦ q.answered w i f ];
}

but : (b : ℕ → Type 0) (s t : Scheduler) → NoLoss s t → NoLossBut b s t
but b s t p = record { slot_holders = λ w _ e. p.slot_holders w tt e; answered = λ w _ e. p.answered w tt e }

abbrev pub sch : NodeContext → Scheduler
sch t = t.node.scheduler

leases_lose : (t : NodeContext) (k : AskKey) (o : Option ℕ) → NoLoss (sch t) (sch (leases_idle t k o))
leases_lose t k None = record { slot_holders = λ w _ e. list_any-push_left (λ y. y == w) (sch t).slot_holders _ e; answered = λ w _ e. inr e }
leases_lose t k (Some v) = record { slot_holders = λ w _ e. list_any-push_left (λ y. y == w) (sch t).slot_holders v e; answered = λ w _ e. inr e }

asked_lose : (t : NodeContext) (k : AskKey) (x : Option AskReply) → NoLoss (sch t) (sch (asked_by t k x))
asked_lose t k None =
    at_test (λ b. NoLoss (sch t) (sch (if b then gives_worker t k else has_no_slot_for t k))) (has_free_slot (sch t))
    (λ _. leases_lose t k (least (sch t).idle))
    (λ _. at_test (λ b. NoLoss (sch t) (sch (if b then replies_anew t k (SentOn (next_in_circle t.nodes t.number)) else queues t k))) (nat_lt (k.hops + 1) t.nodes)
    (λ _. record { slot_holders = λ w _ e. e; answered = λ w _ e. inr e }) (λ _. record { slot_holders = λ w _ e. e; answered = λ w _ e. inr e }))
asked_lose t k (Some x) = none_lost (sch t)

grants_queued_lose : (t : NodeContext) (k : Option AskKey) → NoLoss (sch t) (sch (grants_queued t k))
grants_queued_lose t None = none_lost (sch t)
grants_queued_lose t (Some k) =
    let q : Scheduler = record (sch t) { queue = rest_of (sch t).queue } in
    let r : NoLoss q (sch (leases_idle (with_scheduler t q) k (least q.idle))) = leases_lose (with_scheduler t q) k (least q.idle) in
    record { slot_holders = r.slot_holders; answered = r.answered }

first_or_rest : (xs : List ℕ) (w v : ℕ) → first_item xs ≡ Some w → has xs v ≡ true → (w ≡ v) ⊎ (has (rest_of xs) v ≡ true)
first_or_rest [] w v e f = absurd (cc)
first_or_rest (x ∷ xs) w v e f =
    let same : x ≡ w = cc in
    elim (or_cases (x == v) (has xs v) f) [ inl g ↦ inl (sym same ∙ eqb-true x v g) | inr g ↦ inr g ]

grants_next_lose : (t : NodeContext) (o : Option ℕ) → first_item (sch t).answered ≡ o → NoLoss (sch t) (sch (grants_next t o))
grants_next_lose t None e = grants_queued_lose t (first_item (sch t).queue)
grants_next_lose t (Some w) e = record {
  slot_holders = λ v _ f. list_any-push_left (λ y. y == v) (sch t).slot_holders w f;
  answered = λ v _ f. elim (first_or_rest (sch t).answered w v e f) [
    | inl same ↦ inl (subst (λ u. has ((sch t).slot_holders ++ w ∷ []) u ≡ true) same (has-last (sch t).slot_holders w))
    | inr g ↦ inr g
  ];
}

grants_lose : (t : NodeContext) → NoLoss (sch t) (sch (grants t))
grants_lose t =
    at_test (λ b. NoLoss (sch t) (sch (if b then grants_next t (first_item (sch t).answered) else t))) (has_free_slot (sch t))
    (λ _. grants_next_lose t (first_item (sch t).answered) refl) (λ _. none_lost (sch t))

abbrev pub Others : ℕ → ℕ → Type 0
Others w v = w ≢ v

pub frees_lose : (t : NodeContext) (w : ℕ) → NoLossBut (Others w) (sch t) (sch (frees t w))
frees_lose t w =
    let s : Scheduler = without_slot (sch t) w in
    at_test (λ b. NoLossBut (Others w) (sch t) (sch (if b then grants (with_scheduler t s) else t))) (has (sch t).slot_holders w)
    (λ _. then_lost (Others w) (sch t) s (sch (grants (with_scheduler t s)))
    (record { slot_holders = λ v apart e. has-stays (sch t).slot_holders w v apart e; answered = λ v _ e. inr e })
    (but (Others w) s (sch (grants (with_scheduler t s))) (grants_lose (with_scheduler t s))))
    (λ _. but (Others w) (sch t) (sch t) (none_lost (sch t)))

pub asks_lose : (t : NodeContext) (w : ℕ) → NoLoss (sch t) (sch (asks_slot t w))
asks_lose t w =
    let s : Scheduler = with_answered (sch t) w in
    at_test (λ b. NoLoss (sch t) (sch (if b then t else grants (with_scheduler t s)))) (has (sch t).slot_holders w || has (sch t).answered w)
    (λ _. none_lost (sch t))
    (λ _. then_lost Anyone (sch t) s (sch (grants (with_scheduler t s)))
    (record { slot_holders = λ v _ e. e; answered = λ v _ e. inr (list_any-push_left (λ y. y == v) (sch t).answered w e) }) (grants_lose (with_scheduler t s)))

-- whoever asks for a slot has it, or asks for it
pub asks_gains : (t : NodeContext) (w : ℕ) → (has (sch (asks_slot t w)).slot_holders w ≡ true) ⊎ (has (sch (asks_slot t w)).answered w ≡ true)
asks_gains t w =
    let s : Scheduler = with_answered (sch t) w in
    at_test (λ b. (has (sch t).slot_holders w || has (sch t).answered w) ≡ b →
    (has (sch (if b then t else grants (with_scheduler t s))).slot_holders w ≡ true) ⊎
    (has (sch (if b then t else grants (with_scheduler t s))).answered w ≡ true))
    (has (sch t).slot_holders w || has (sch t).answered w)
    (λ _ e. elim (or_cases (has (sch t).slot_holders w) (has (sch t).answered w) e) [ inl f ↦ inl f | inr f ↦ inr f ])
    (λ _ _. (grants_lose (with_scheduler t s)).answered w tt (has-last (sch t).answered w)) refl

pub forgets_lose : (t : NodeContext) (w : ℕ) → NoLossBut (Others w) (sch t) (sch (forgets t w))
forgets_lose t w =
    let s : Scheduler = without_worker (sch t) w in
    then_lost (Others w) (sch t) s (sch (frees (with_scheduler t s) w))
    (record { slot_holders = λ v _ e. e; answered = λ v apart e. inr (has-stays (sch t).answered w v apart e) }) (frees_lose (with_scheduler t s) w)

fetched_lose : (t : NodeContext) (o : Id) (number w : ℕ) (c : Option Outcome) → NoLoss (sch t) (sch (fetched t o number w c))
fetched_lose t o number w None = none_lost (sch t)
fetched_lose t o number w (Some c) = record { slot_holders = λ v _ e. e; answered = λ v _ e. inr e }

reached_from_lose : (t : NodeContext) (w : ℕ) (m : Message) → NoLoss (sch t) (sch (node_reached_from t w m))
reached_from_lose t w (Ask a i) = asked_lose t (ask_key a i) (reply_to (sch t) (ask_key a i))
reached_from_lose t w (Back a) =
    at_test (λ b. NoLoss (sch t) (sch (if b then with_scheduler t (with_idle (sch t) w) else t))) (may_be_idle (sch t) w a)
    (λ _. record { slot_holders = λ v _ e. e; answered = λ v _ e. inr e }) (λ _. none_lost (sch t))
reached_from_lose t w (Fetch o number) = fetched_lose t o number w (copy_in t.node.store o number)
reached_from_lose t w (Unhold e o why) = record { slot_holders = λ v _ i. i; answered = λ v _ i. inr i }
reached_from_lose t w (Give a i v) = none_lost (sch t)
reached_from_lose t w (Elsewhere a i m) = none_lost (sch t)
reached_from_lose t w (Wait a i) = none_lost (sch t)
reached_from_lose t w (Push a spec) = none_lost (sch t)
reached_from_lose t w (Finished a m rs) = none_lost (sch t)
reached_from_lose t w (FinishedAck a) = none_lost (sch t)
reached_from_lose t w (Failed a f) = none_lost (sch t)
reached_from_lose t w (Where o) = none_lost (sch t)
reached_from_lose t w (At o number ns kept) = none_lost (sch t)
reached_from_lose t w (Gone o f) = none_lost (sch t)
reached_from_lose t w (CopyOf o number c) = none_lost (sch t)
reached_from_lose t w (Missing o number m) = none_lost (sch t)
reached_from_lose t w (Hold e o) = none_lost (sch t)
reached_from_lose t w (HoldAck e o) = none_lost (sch t)

pub reached_lose : (t : NodeContext) (from : Endpoint) (m : Message) → NoLoss (sch t) (sch (node_reached t from m))
reached_lose t (TheWorker w) m = reached_from_lose t w m
reached_lose t (TheNode k) m = none_lost (sch t)

-- ---- whose turn it is

pub new_stopped : (n : ℕ) (y : Worker) → new_worker n ≡ y → pace_by y.run ≡ HasStopped
new_stopped n y same = ap (λ (x : Worker). pace_by x.run) (sym same)

stopped_out : (j : ℕ) → HasStopped ≡ IsOut j → ⊥
stopped_out j e = absurd (cc)

rests_out : (j : ℕ) → Rests ≡ IsOut j → ⊥
rests_out j e = absurd (cc)

-- it is nobody's turn whose attempt waits or has stopped
pub record NoTurn (x : Worker) : Type 0 where
  pub goes : pace_by x.run ≡ GoesOn → ⊥
  pub out : (j : ℕ) → pace_by x.run ≡ IsOut j → ⊥

rests_no_turn : (x : Worker) → pace_by x.run ≡ Rests → NoTurn x
rests_no_turn x e = record { goes = λ f. rests_not (sym e ∙ f); out = λ j f. rests_out j (sym e ∙ f) }

pub stopped_no_turn : (x : Worker) → pace_by x.run ≡ HasStopped → NoTurn x
stopped_no_turn x e = record { goes = λ f. stopped_not (sym e ∙ f); out = λ j f. stopped_out j (sym e ∙ f) }

-- the turns of workers that are the same, but for those whose turn it isn't
pub turns_after : (b : ℕ → Type 0) (look next : Look) (n : ℕ) (s t : Scheduler) →
    ((w : ℕ) (y : Worker) → next w ≡ Some y → y.is_live ≡ true → ((look w ≡ Some y) × b w) ⊎ NoTurn y) →
    NoLossBut b s t → HasTurn look n s → HasTurn next n t
turns_after b look next n s t back less turns = record {
  out = λ w y j at home live out. elim (back w y at live) [
    | inl (f, is) ↦ less.slot_holders w is (turns.out w y j f home live out)
    | inr none ↦ absurd
        (none.out j out)
  ];
  ready = λ w y at home live ready. elim (back w y at live) [
    | inl (f, is) ↦ elim (turns.ready w y f home live ready) [ inl g ↦ inl (less.slot_holders w is g) | inr g ↦ less.answered w is g ]
    | inr none ↦ absurd (none.goes ready)
  ];
}

-- ---- a worker

module _ (c : ClusterState) (me n : ℕ) (old : Worker) (there : item_at c.workers me ≡ Some old) where
  pub record Turns (h : WorkerContext) : Type 0 where
    pub who : h.me ≡ me
    pub home : h.worker.node ≡ n
    pub turns : HasTurn (look_here c me n old there h) n h.there.node.scheduler

  abbrev look : Worker → ℕ → Look
  look x opened = look_with c me n old there x opened

  grows : (x : Worker) (k i w : ℕ) (y : Worker) → look x i w ≡ Some y → (look x k w ≡ Some y) ⊎ NoTurn y
  grows x k i w y e = elim (append_split (workers_with c me n old there x) (repeated i (new_worker n)) w y e) [
    | inl f ↦ inl (there_more (workers_with c me n old there x) (repeated k (new_worker n)) w y f)
    | inr (_, (j, f)) ↦ inr (stopped_no_turn y (new_stopped n y (one_of j i w (new_worker n) y f)))
  ]

  is_me : (x y : Worker) (k w : ℕ) → w ≡ me → look x k w ≡ Some y → x ≡ y
  is_me x y k w same e = let g : ◌≡◌ {A = Option Worker} (Some x) (Some y) = sym (at_me c me n old there x k) ∙ subst (λ v. look x k v ≡ Some y) same e in cc

  -- the worker has become y; its turn is what it was, or it has a slot, or it has no turn
  worker_turns : (h : WorkerContext) (y : Worker) → y.node ≡ h.worker.node → (y.is_live ≡ true → h.worker.is_live ≡ true) →
      (pace_by y.run ≡ pace_by h.worker.run) ⊎ (has h.there.node.scheduler.slot_holders me ≡ true) ⊎ NoTurn y → Turns h → Turns (with_worker h y)
  worker_turns h y node live now t = record {
    who = t.who;
    home = node ∙ t.home;
    turns = record {
      out = λ w z j at home lives out. elim (by_number w me) [
        | inl same ↦ mine_out w z j same at lives out now
        | inr apart ↦ t.turns.out w z j (sym (at_other c me n old there h.worker y h.there.opened w apart) ∙ at) home lives out
      ];
      ready = λ w z at home lives ready. elim (by_number w me) [
        | inl same ↦ mine_ready w z same at lives ready now
        | inr apart ↦ t.turns.ready w z (sym (at_other c me n old there h.worker y h.there.opened w apart) ∙ at) home lives ready
      ];
    };
  }
    where
      was : look h.worker h.there.opened me ≡ Some h.worker
      was = at_me c me n old there h.worker h.there.opened

      mine_out : (w : ℕ) (z : Worker) (j : ℕ) → w ≡ me → look y h.there.opened w ≡ Some z → z.is_live ≡ true → pace_by z.run ≡ IsOut j →
          (pace_by y.run ≡ pace_by h.worker.run) ⊎ (has h.there.node.scheduler.slot_holders me ≡ true) ⊎ NoTurn y → has h.there.node.scheduler.slot_holders w ≡ true
      mine_out w z j same at lives out (inl alike) =
          let is : y ≡ z = is_me y z h.there.opened w same at in
          let pace : pace_by h.worker.run ≡ IsOut j = sym alike ∙ ap (λ (u : Worker). pace_by u.run) is ∙ out in
          subst (λ v. has h.there.node.scheduler.slot_holders v ≡ true) (sym same)
          (t.turns.out me h.worker j was t.home (live (ap (λ (u : Worker). u.is_live) is ∙ lives)) pace)
      mine_out w z j same at lives out (inr (inl slot)) = subst (λ v. has h.there.node.scheduler.slot_holders v ≡ true) (sym same) slot
      mine_out w z j same at lives out (inr (inr none)) = absurd (none.out j (ap (λ (u : Worker). pace_by u.run) (is_me y z h.there.opened w same at) ∙ out))

      mine_ready : (w : ℕ) (z : Worker) → w ≡ me → look y h.there.opened w ≡ Some z → z.is_live ≡ true → pace_by z.run ≡ GoesOn →
          (pace_by y.run ≡ pace_by h.worker.run) ⊎ (has h.there.node.scheduler.slot_holders me ≡ true) ⊎ NoTurn y →
          (has h.there.node.scheduler.slot_holders w ≡ true) ⊎ (has h.there.node.scheduler.answered w ≡ true)
      mine_ready w z same at lives ready (inl alike) =
          let is : y ≡ z = is_me y z h.there.opened w same at in
          let pace : pace_by h.worker.run ≡ GoesOn = sym alike ∙ ap (λ (u : Worker). pace_by u.run) is ∙ ready in
          subst (λ v. (has h.there.node.scheduler.slot_holders v ≡ true) ⊎ (has h.there.node.scheduler.answered v ≡ true)) (sym same)
          (t.turns.ready me h.worker was t.home (live (ap (λ (u : Worker). u.is_live) is ∙ lives)) pace)
      mine_ready w z same at lives ready (inr (inl slot)) = inl (subst (λ v. has h.there.node.scheduler.slot_holders v ≡ true) (sym same) slot)
      mine_ready w z same at lives ready (inr (inr none)) = absurd (none.goes (ap (λ (u : Worker). pace_by u.run) (is_me y z h.there.opened w same at) ∙ ready))

  -- whose turn it isn't gives its slot back
  pub frees_turns : (h : WorkerContext) → NoTurn h.worker → Turns h → Turns (gives_slot_back h)
  frees_turns h none t =
      let k : ℕ = (frees h.there h.me).opened in
      record {
        who = t.who;
        home = t.home;
        turns = turns_after (Others h.me) (look h.worker h.there.opened) (look h.worker k) n (sch h.there) (sch (frees h.there h.me))
            (λ w y e _. elim (by_number w me) [
              | inl same ↦ inr (subst NoTurn (is_me h.worker y k w same e) none)
              | inr apart ↦ elim (grows h.worker h.there.opened k w y e) [ inl f ↦ inl (f, λ i. apart (sym i ∙ t.who)) | inr new ↦ inr new ]
            ]) (frees_lose h.there h.me) t.turns;
      }

  -- whose turn it is anew asks for a slot; of all others it is known
  pub asks_turns : (h : WorkerContext) (before : Worker) → h.me ≡ me → h.worker.node ≡ n → pace_by h.worker.run ≡ GoesOn →
      HasTurn (look before h.there.opened) n h.there.node.scheduler →
      Turns (asks_for_slot h)
  asks_turns h before who home goes t = record {
    who = who;
    home = home;
    turns = record {
      out = λ w y j at home lives out. elim (by_number w me) [
        | inl same ↦ absurd (goes_out j (sym goes ∙ ap (λ (x : Worker). pace_by x.run) (is_me h.worker y k w same at) ∙ out))
        | inr apart ↦ elim (grows h.worker h.there.opened k w y at) [
          | inl f ↦ less.slot_holders w tt (t.out w y j (sym (at_other c me n old there before h.worker h.there.opened w apart) ∙ f) home lives out)
          | inr none ↦ absurd (none.out j out)
        ]
      ];
      ready = λ w y at home lives ready. elim (by_number w me) [
        | inl same ↦ subst (λ v. (has now.slot_holders v ≡ true) ⊎ (has now.answered v ≡ true)) (who ∙ sym same) (asks_gains h.there h.me)
        | inr apart ↦ elim (grows h.worker h.there.opened k w y at) [
          | inl f ↦ elim (t.ready w y (sym (at_other c me n old there before h.worker h.there.opened w apart) ∙ f) home lives ready) [
            | inl g ↦ inl (less.slot_holders w tt g)
            | inr g ↦ less.answered w tt g
          ]
          | inr none ↦ absurd (none.goes ready)
        ]
      ];
    };
  }
    where
      k : ℕ
      k = (asks_slot h.there h.me).opened

      now : Scheduler
      now = sch (asks_slot h.there h.me)

      less : NoLoss (sch h.there) now
      less = asks_lose h.there h.me

      goes_out : (j : ℕ) → GoesOn ≡ IsOut j → ⊥
      goes_out j e = absurd (cc)

  waits_pace : (h : WorkerContext) (run : Execution) (y : Id) (f : Option Fetching) → h.worker.run ≡ Some run → run.phase ≡ Waits y f → NoTurn h.worker
  waits_pace h run y f e q = rests_no_turn h.worker (ap pace_by e ∙ ap pace_in q)

  asked_turns : (h : WorkerContext) (o : Id) (task : OwnTask) (i m : ℕ) → Turns h → Turns (asks_at h o task i m)
  asked_turns h o task i m t =
      let g : Turns (with_task_of h o (record task { progress = AskedAt i m })) =
      worker_turns h (with_task_of h o (record task { progress = AskedAt i m })).worker refl (λ e. e) (inl refl) t in
      record { who = g.who; home = g.home; turns = g.turns }

  pub turns_kept : (ToldBy : ℕ → Attempt → Type 0) (OverOf : Attempt → Type 0) (GivenBy : ℕ → ℕ → Attempt → ℕ → Type 0) →
      IsKept ToldBy OverOf GivenBy AnyPassed Turns
  turns_kept ToldBy OverOf GivenBy = record {
    writes = λ h es t. record { who = t.who; home = t.home; turns = t.turns };
    says_plain = λ h w m _ t. record { who = t.who; home = t.home; turns = t.turns };
    says_plain_to_node = λ h k m _ t. record { who = t.who; home = t.home; turns = t.turns };
    objects = λ h x tame t. worker_turns h x tame.tame.node (λ i. sym tame.tame.live ∙ i) (inl (ap pace_by tame.tame.run)) t;
    bears_new = λ h a spec others ids t. worker_turns h (with_objects h (task_objects a (length h.worker.objects + 1) spec others ids)).worker refl (λ i. i) (inl refl) t;
    comes_to_rest = λ h o task _ _ t. worker_turns h (with_task_of h o (rests task)).worker refl (λ i. i) (inl refl) t;
    store = λ h s t. record { who = t.who; home = t.home; turns = t.turns };
    begins = λ h o task w m _ _ _ _ _ _ t.
        let g : Turns (with_task_of h o (with_begun task w m)) = worker_turns h (with_task_of h o (with_begun task w m)).worker refl (λ i. i) (inl refl) t in
        record { who = g.who; home = g.home; turns = g.turns };
    pushes_again = λ h k task w m _ _ t. record { who = t.who; home = t.home; turns = t.turns };
    asks_anew = λ h o old task _ _ t. asked_turns h o task 0 h.worker.node t;
    asks_on = λ h o task i m k _ _ _ t. asked_turns h o task (i + 1) k t;
    asks_again = λ h k task i m _ _ t. record { who = t.who; home = t.home; turns = t.turns };
    run = λ h run next e k t. worker_turns h (record h.worker { run = Some next }) refl (λ i. i)
        (inl (k.pace ∙ ap pace_by (sym e))) t;
    leaves = λ h run next e _ _ phase _ t. worker_turns h (record h.worker { run = Some next }) refl (λ i. i) (inl (ap pace_in phase ∙ ap pace_by (sym e))) t;
    gets = λ h run content y f e q t.
        let g : WorkerContext = logs (with_run h (with_answer run content)) (Got run.attempt y content) in
        asks_turns g h.worker t.who t.home refl t.turns;
    faults = λ h run fault y f e q t.
        let next : Execution = record run { phase = HasFaulted fault } in
        let g : WorkerContext = logs (with_run h next) (Faulted run.attempt y fault) in
        let none : NoTurn g.worker = stopped_no_turn g.worker refl in
        let turned : Turns (with_run h next) = worker_turns h (record h.worker { run = Some next }) refl (λ i. i) (inr (inr none)) t in
        frees_turns g none (record { who = turned.who; home = turned.home; turns = turned.turns });
    frees = λ h run y f e q t. frees_turns h (waits_pace h run y f e q) t;
    tells_end = λ h run m rs _ _ t. record { who = t.who; home = t.home; turns = t.turns };
    tells_fault = λ h run f _ _ t. record { who = t.who; home = t.home; turns = t.turns };
    back = λ h run _ _ t. record { who = t.who; home = t.home; turns = t.turns };
    hears = λ h w a _ t. record { who = t.who; home = t.home; turns = t.turns };
    back_of = λ h m a _ _ t. record { who = t.who; home = t.home; turns = t.turns };
  }

  -- ---- the worker's own steps

  abbrev T : ℕ → Attempt → Type 0
  T w a = Unit {0}

  abbrev O : Attempt → Type 0
  O a = Unit {0}

  abbrev V : ℕ → ℕ → Attempt → ℕ → Type 0
  V k i a w = Unit {0}

  kept : IsKept T O V AnyPassed Turns
  kept = turns_kept T O V

  -- an attempt that begins has the slot with which its worker was leased
  pub push_turns : (h : WorkerContext) (a : Attempt) (spec : Birth) → has h.there.node.scheduler.slot_holders me ≡ true → Turns h → Turns (begins_run h a spec)
  push_turns h a spec slot t = worker_turns h (begins_run h a spec).worker refl (λ i. i) (inr (inl slot)) t

  -- so an attempt that is given out
  pub claim_turns : (h : WorkerContext) (j : ℕ) → has h.there.node.scheduler.slot_holders me ≡ true → Turns h → Turns (claim_step h j)
  claim_turns h j slot t = by_run h.worker.run
    where
      by_run : (r : Option Execution) → Turns (claim_by h j r)
      by_run None = t
      by_run (Some run) = worker_turns h (record h.worker { run = Some (record run { phase = Out j }) }) refl (λ i. i) (inr (inl slot)) t

  -- the attempt has stopped, whatever comes of it
  abbrev StoppedHere : WorkerContext → Type 0
  StoppedHere h = pace_by h.worker.run ≡ HasStopped

  rests_not_stopped : Rests ≡ HasStopped → ⊥
  rests_not_stopped e = absurd (cc)

  waits_on : (r : Option Execution) (run : Execution) (y : Id) (f : Option Fetching) → r ≡ Some run → run.phase ≡ Waits y f → pace_by r ≡ HasStopped → ⊥
  waits_on r run y f e q p = rests_not_stopped (sym (ap pace_by e ∙ ap pace_in q) ∙ p)

  stopped_kept : IsKept T O V AnyPassed StoppedHere
  stopped_kept = record {
    writes = λ h es p. p;
    says_plain = λ h w m _ p. p;
    says_plain_to_node = λ h k m _ p. p;
    objects = λ h x t p. ap pace_by t.tame.run ∙ p;
    bears_new = λ h a spec others ids p. p;
    comes_to_rest = λ h o task _ _ p. p;
    store = λ h s p. p;
    begins = λ h o task w m _ _ _ _ _ _ p. p;
    pushes_again = λ h k task w m _ _ p. p;
    asks_anew = λ h o old task _ _ p. p;
    asks_on = λ h o task t m k _ _ _ p. p;
    asks_again = λ h k task t m _ _ p. p;
    run = λ h run next e k p. k.pace ∙ sym (ap pace_by e) ∙ p;
    leaves = λ h run next e _ _ phase _ p. ap pace_in phase ∙ sym (ap pace_by e) ∙ p;
    gets = λ h run content y f e q p. absurd (waits_on h.worker.run run y f e q p);
    faults = λ h run fault y f e q p. absurd (waits_on h.worker.run run y f e q p);
    frees = λ h run y f e q p. absurd (waits_on h.worker.run run y f e q p);
    tells_end = λ h run m rs _ _ p. p;
    tells_fault = λ h run f _ _ p. p;
    back = λ h run _ _ p. p;
    hears = λ h w a _ p. p;
    back_of = λ h m a _ _ p. p;
  }

  ends_turns : (h : WorkerContext) (run : Execution) (cs : List Outcome) → Turns h → Turns (ends h run cs)
  ends_turns h run cs t =
      let g : WorkerContext = with_phase h run (HasEnded cs) in
      let held : WorkerContext = keeps_contents g run.attempt.object run.attempt.number cs in
      let ended : Turns g = worker_turns h g.worker refl (λ i. i) (inr (inr (stopped_no_turn g.worker refl))) t in
      frees_turns (leaves_if_free held) (stopped_no_turn _ (both StoppedHere stopped_kept refl)) (both Turns kept ended)
    where
      both : (P : WorkerContext → Type 0) (k : IsKept T O V AnyPassed P) → P (with_phase h run (HasEnded cs)) →
          P (leaves_if_free (keeps_contents (with_phase h run (HasEnded cs)) run.attempt.object run.attempt.number cs))
      both P k p =
          leaves_if_free-kept T O V AnyPassed P k _ (keeps_contents-kept T O V AnyPassed P k (with_phase h run (HasEnded cs)) run.attempt.object run.attempt.number cs p)

  stops_turns : (h : WorkerContext) (stop : Stopped) (r : Option Execution) → h.worker.run ≡ r → Turns h → Turns (stops_by h stop r)
  stops_turns h stop None e t = t
  stops_turns h (AtGet y) (Some run) e t =
      let g : WorkerContext = with_phase h run (Waits y None) in
      needs-kept T O V AnyPassed Turns kept h run y (worker_turns h g.worker refl (λ i. i) (inr (inr (rests_no_turn g.worker refl))) t)
  stops_turns h (AtEnd content) (Some run) e t = ends_turns h run content t

  -- an attempt that is out has a slot, until it is committed
  pub commit_turns : (h : WorkerContext) (o : Outcomes) (run : Execution) (j : ℕ) → h.worker.run ≡ Some run → run.phase ≡ Out j → h.worker.is_live ≡ true → Turns h →
      Turns (commit_step h o)
  commit_turns h o run j e out live t = subst (λ r. Turns (commit_by h o r)) (sym e) by_run
    where
      slot : has h.there.node.scheduler.slot_holders me ≡ true
      slot = t.turns.out me h.worker j (at_me c me n old there h.worker h.there.opened) t.home live (ap pace_by e ∙ ap pace_in out)

      by_run : Turns (commit_by h o (Some run))
      by_run =
          let es : List Entry = commit_entries run.attempt (next_id_here h) o.births o.prints (stop_of o.stop) in
          let next : Execution = with_outcomes run o in
          let g : WorkerContext = logs_all (with_run h next) es in
          let started : Turns (with_run h next) = worker_turns h (record h.worker { run = Some next }) refl (λ i. i) (inr (inl slot)) t in
          let borne : WorkerContext = bears_all g run.attempt o.births in
          stops_turns borne o.stop borne.worker.run refl (bears_all-kept T O V AnyPassed Turns kept g run.attempt o.births
          (record { who = started.who; home = started.home; turns = started.turns }))

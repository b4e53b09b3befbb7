-- A worker in its event keeps the leases of its node in order.
use Rattle.std.proofs.Common.{◌≡◌, ◌≢◌, ℕ, ◌+◌, List, [], ◌∷◌, ◌++◌, Some, None, Option, refl, ap, sym, subst, ◌∙◌, ◌⊎◌, inl, inr}
use Rattle.std.specs.Prelude.{length, true, false, if◌then◌else◌, ◌==◌}
use Rattle.std.proofs.lemmas.Bool.{both_ways, eqb-false, eqb-true, false_from_ne_true}
use Rattle.meaning.proofs.BirthLaws.{at_test}
use Rattle.meaning.specs.Values.{Birth, Id}
use Rattle.event_log.specs.Entries.{Attempt, Begun, Entry, Faulted, Got}
use Rattle.event_log.specs.Words.{attempt}
use Rattle.event_log.specs.Breaks.{Among}
use Rattle.protocol_laws.specs.of_protocol.Numbered.{item_at, changed_at}
use Rattle.protocol_laws.specs.of_step_laws.Counting.{item_of, changed}
use Rattle.protocol_laws.proofs.of_step_laws.Places.{changed_is, item_is}
use Rattle.protocol_laws.proofs.of_step_laws.Lists.{changed-length}
use Rattle.protocol_laws.specs.of_protocol.Sets.{object_id, repeated}
use Rattle.protocol_laws.specs.of_protocol.Messages.{Envelope, envelope, Message, Endpoint, TheWorker, TheNode, Ask, Give, Elsewhere, Wait, Back, Push, Finished, FinishedAck, Failed}
use Rattle.protocol_laws.specs.of_protocol.Messages.{Where, At, Gone, Fetch, CopyOf, Missing, Hold, HoldAck, Unhold}
use Rattle.protocol_laws.specs.of_protocol.Tables.{Fetching, HasEnded, HasFaulted, Object, Out, OwnTask, Phase, Ready, Execution, RunsOn, Waits, Worker, has_stopped, new_worker}
use Rattle.protocol_laws.specs.of_protocol.Tables.{owner_of, task_in, task_of, with_task}
use Rattle.protocol_laws.specs.of_protocol.Steps.{WorkerContext, logs, logs_all, own_id, says, with_run, with_task_of, with_there, with_worker}
use Rattle.protocol_laws.specs.of_protocol.Runs.{asks_for_slot, gives_slot_back, with_answer}
use Rattle.protocol_laws.specs.of_protocol.Asking.{with_begun}
use Rattle.protocol_laws.specs.of_protocol.Nodes.{posts}
use Rattle.protocol_laws.specs.of_protocol.Cluster.{ClusterState}
use Rattle.protocol_laws.specs.of_protocol_owed.Courses.{HasStopped, has_begun}
use Rattle.protocol_laws.proofs.of_protocol_owed.Nodes.{changed_cases, there_still, there_more}
use Rattle.protocol_laws.proofs.of_protocol_owed.Envelopes.{among-more}
use Rattle.protocol_laws.specs.of_protocol_owed.Told.{pace_in}
use Rattle.protocol_laws.proofs.of_protocol_owed.TellingMore.{stopped_pace}
use Rattle.protocol_laws.proofs.of_smallest_steps.Smallest.{AnyPassed}
use Rattle.lease_discipline.specs.Discipline.{Look, Gave, IsBack, IsDone, IsJobOf, IsTrue, IsTrueBetween, WorkerKeeps}
use Rattle.lease_discipline.proofs.Tame.{IsTame}
use Rattle.lease_discipline.proofs.Follows.{AllFollow, Follows, More, follow_grows, gave_more, never_busy, node_follows, stays, true_more}
use Rattle.lease_discipline.proofs.Moves.{IsKept, is_plain}
use Rattle.protocol_laws.specs.of_protocol.Asking.{asks_at, rests}
use Rattle.protocol_laws.specs.of_protocol.Tables.{AskedAt}
use Rattle.lease_discipline.proofs.Tame.{asked_not_run, born_tame, rest_not_run, task_tame}
use Rattle.lease_discipline.proofs.Nodes.{IsUnwanted}
use Rattle.lease_discipline.proofs.Theres.{Goes, asks_slot_goes, frees_goes, logs_goes, look_in, store_goes, worker_says_goes}

-- ---- one of a list is changed

module _ {X : Type 0} where
  counted_other : (k : ℕ) (xs ys : List X) (n m : ℕ) (f g : X → X) → m ≢ n → item_of k (changed k xs n f ++ ys) m ≡ item_of k (changed k xs n g ++ ys) m
  counted_other k [] ys n m f g apart = refl
  counted_other k (x ∷ xs) ys n m f g apart =
      at_test (λ b. (k == m) ≡ b → (if b then Some (if k == n then f x else x) else item_of (k + 1) (changed (k + 1) xs n f ++ ys) m) ≡
      (if b then Some (if k == n then g x else x) else item_of (k + 1) (changed (k + 1) xs n g ++ ys) m)) (k == m)
      (λ _ e. at_test (λ b. (k == n) ≡ b → Some (if b then f x else x) ≡ Some (if b then g x else x)) (k == n)
      (λ _ i. absurd (apart (sym (eqb-true k m e) ∙ eqb-true k n i))) (λ _ i. refl) refl)
      (λ _ e. counted_other (k + 1) xs ys n m f g apart) refl

  pub other_item : (xs ys : List X) (n m : ℕ) (f g : X → X) → m ≢ n → item_at (changed_at xs n f ++ ys) m ≡ item_at (changed_at xs n g ++ ys) m
  other_item xs ys n m f g apart =
      sym (item_is (changed_at xs n f ++ ys) m) ∙ ap (λ zs. item_of 1 (zs ++ ys) m) (sym (changed_is xs n f)) ∙ counted_other 1 xs ys n m f g apart ∙
      ap (λ zs. item_of 1 (zs ++ ys) m) (changed_is xs n g) ∙ item_is (changed_at xs n g ++ ys) m

  pub changed_now : (xs : List X) (n : ℕ) (x y : X) → item_at xs n ≡ Some x → item_at (changed_at xs n (λ _. y)) n ≡ Some y
  changed_now xs n x y e =
      let f = there_still xs n n (λ _. y) x e in
      elim (changed_cases xs n n (λ _. y) f.0 f.1) [ inl (_, _, _, same) ↦ f.1 ∙ ap (λ z. Some z) same | inr (apart, _) ↦ absurd (apart refl) ]

  pub changed_elsewhere : (xs : List X) (n m : ℕ) (f : X → X) (x : X) → m ≢ n → item_at xs m ≡ Some x → item_at (changed_at xs n f) m ≡ Some x
  changed_elsewhere xs n m f x apart e =
      let g = there_still xs n m f x e in
      elim (changed_cases xs n m f g.0 g.1) [ inl (same, _, _, _) ↦ absurd (apart same) | inr (_, at) ↦ g.1 ∙ sym at ∙ e ]

pub by_number : (m n : ℕ) → (m ≡ n) ⊎ (m ≢ n)
by_number m n = at_test (λ b. (m == n) ≡ b → (m ≡ n) ⊎ (m ≢ n)) (m == n) (λ _ e. inl (eqb-true m n e)) (λ _ e. inr (eqb-false m n e)) refl

-- ---- phases

pace_stopped : (p : Phase) → pace_in p ≡ HasStopped → has_stopped p ≡ true
pace_stopped (HasEnded c) e = refl
pace_stopped (HasFaulted f) e = refl
pace_stopped Ready e = absurd (cc)
pace_stopped (Out j) e = absurd (cc)
pace_stopped (Waits y f) e = absurd (cc)

out_pace : (p : Phase) (j : ℕ) → pace_in p ≡ pace_in (Out j) → p ≡ Out j
out_pace (Out i) j e = let f : i ≡ j = cc in ap (λ k. Out k) f
out_pace Ready j e = absurd (cc)
out_pace (Waits y f) j e = absurd (cc)
out_pace (HasEnded c) j e = absurd (cc)
out_pace (HasFaulted f) j e = absurd (cc)

plain_true : (look : Look) (sent : List Envelope) (from to : Endpoint) (m : Message) → is_plain m ≡ true → IsTrueBetween look sent from to m
plain_true look sent from to (Give a t w) e = absurd (cc)
plain_true look sent from to (Push a spec) e = absurd (cc)
plain_true look sent from to (Finished a n rs) e = absurd (cc)
plain_true look sent from to (Failed a f) e = absurd (cc)
plain_true look sent from to (FinishedAck a) e = absurd (cc)
plain_true look sent from to (Back a) e = absurd (cc)
plain_true look sent from to (Ask a t) e = absurd (cc)
plain_true look sent from to (Elsewhere a t n) e = tt
plain_true look sent from to (Wait a t) e = tt
plain_true look sent from to (Where o) e = tt
plain_true look sent from to (At o number ns kept) e = tt
plain_true look sent from to (Gone o f) e = tt
plain_true look sent from to (Fetch o number) e = tt
plain_true look sent from to (CopyOf o number c) e = tt
plain_true look sent from to (Missing o number n) e = tt
plain_true look sent from to (Hold e o) f = tt
plain_true look sent from to (HoldAck e o) f = tt
plain_true look sent from to (Unhold e o why) f = tt

-- ---- the event of worker me of node n

module _ (c : ClusterState) (me n : ℕ) (old : Worker) (there : item_at c.workers me ≡ Some old) where
  -- the workers, where this one is x
  abbrev pub workers_with : Worker → List Worker
  workers_with x = changed_at c.workers me (λ _. x)

  abbrev pub look_with : Worker → ℕ → Look
  look_with x opened = λ w. item_at (workers_with x ++ repeated opened (new_worker n)) w

  abbrev pub look_here : WorkerContext → Look
  look_here h = look_in c.jobs (workers_with h.worker) c.network n h.there

  abbrev pub sent_here : WorkerContext → List Envelope
  sent_here h = c.network ++ h.there.out.envelopes

  pub record Does (h : WorkerContext) : Type 0 where
    pub who : h.me ≡ me
    pub home : h.worker.node ≡ n
    pub goes : Goes c.jobs (workers_with h.worker) c.network n h.there

  pub at_me : (x : Worker) (opened : ℕ) → look_with x opened me ≡ Some x
  at_me x opened = there_more (workers_with x) (repeated opened (new_worker n)) me x (changed_now c.workers me old x there)

  pub at_other : (x y : Worker) (opened w : ℕ) → w ≢ me → look_with y opened w ≡ look_with x opened w
  at_other x y opened w apart = other_item c.workers (repeated opened (new_worker n)) me w (λ _. y) (λ _. x) apart

  all_follow : (x y : Worker) (opened : ℕ) → Follows x y → AllFollow (look_with x opened) (look_with y opened)
  all_follow x y opened f = record {
    back = λ w z e. elim (by_number w me) [
      | inl same ↦
          let g : ◌≡◌ {A = Option Worker} (Some y) (Some z) = sym (at_me y opened) ∙ subst (λ u. look_with y opened u ≡ Some z) same e in
          let is : y ≡ z = cc in
          (x, subst (λ u. look_with x opened u ≡ Some x) (sym same) (at_me x opened), subst (Follows x) is f)
      | inr apart ↦ (z, sym (at_other x y opened w apart) ∙ e, stays z)
    ];
    forth = λ w z e. elim (by_number w me) [
      | inl same ↦
          let g : ◌≡◌ {A = Option Worker} (Some x) (Some z) = sym (at_me x opened) ∙ subst (λ u. look_with x opened u ≡ Some z) same e in
          let is : x ≡ z = cc in
          (y, subst (λ u. look_with y opened u ≡ Some y) (sym same) (at_me y opened), subst (λ u. Follows u y) is f)
      | inr apart ↦ (z, at_other x y opened w apart ∙ e, stays z)
    ];
  }

  -- what is known of the worker itself
  pub mine : (h : WorkerContext) → Does h → WorkerKeeps c.jobs (sent_here h) me h.worker
  mine h d = d.goes.workers.each me h.worker (at_me h.worker h.there.opened)

  -- the worker goes on
  pub worker_does : (h : WorkerContext) (y : Worker) → Follows h.worker y → WorkerKeeps c.jobs (sent_here h) me y → Does h → Does (with_worker h y)
  worker_does h y f k d =
      let x : Worker = h.worker in
      let opened : ℕ = h.there.opened in
      let g = d.goes in
      let all : AllFollow (look_with x opened) (look_with y opened) = all_follow x y opened f in
      record {
        who = d.who;
        home = f.node ∙ d.home;
        goes = record {
          number = g.number;
          counted = g.counted ∙ changed-length c.workers me (λ _. x) ∙ sym (changed-length c.workers me (λ _. y));
          workers = record {
            each = λ w z e. elim (by_number w me) [
              | inl same ↦
                  let i : ◌≡◌ {A = Option Worker} (Some y) (Some z) = sym (at_me y opened) ∙ subst (λ u. look_with y opened u ≡ Some z) same e in
                  let is : y ≡ z = cc in
                  subst (λ u. WorkerKeeps c.jobs (sent_here h) u z) (sym same) (subst (WorkerKeeps c.jobs (sent_here h) me) is k)
              | inr apart ↦ g.workers.each w z (sym (at_other x y opened w apart) ∙ e)
            ];
            envelopes = λ l i. true_more (look_with x opened) (look_with y opened) (sent_here h) (sent_here h)
                (follow_grows (look_with x opened) (look_with y opened) all) (λ _ j. j) l (g.workers.envelopes l i);
          };
          there = node_follows (look_with x opened) (look_with y opened) (sent_here h) n h.there.node.scheduler all g.there;
          alone = g.alone;
        };
      }

  -- its attempt goes on
  pub run_does : (h : WorkerContext) (run next : Execution) → h.worker.run ≡ Some run → next.attempt ≡ run.attempt → (run.is_over ≡ true → next.is_over ≡ true) →
      (next.is_over ≡ true → has_stopped next.phase ≡ true) → ((j : ℕ) → next.phase ≡ Out j → IsJobOf c.jobs me j) → Does h → Does (with_run h next)
  run_does h run next e same later stopped out d =
      let k = mine h d in
      worker_does h (record h.worker { run = Some next })
      (record {
        node = refl;
        live = λ i. i;
        began = refl;
        going = λ r i over.
            let is : next ≡ r = cc in (
              run,
              e,
              sym same ∙ ap (λ (q : Execution). q.attempt) is,
              false_from_ne_true run.is_over
                  (λ g. both_ways r.is_over over (ap (λ (q : Execution). q.is_over) (sym is) ∙ later g)),
            );
      })
      (record {
        began = k.began;
        present = λ r i. let is : next ≡ r = cc in ap (λ (q : Execution). has_begun q.attempt h.worker.began) (sym is) ∙
            ap (λ a. has_begun a h.worker.began) same ∙ k.present run e;
        stopped = λ r i o. let is : next ≡ r = cc in subst (λ (q : Execution). has_stopped q.phase ≡ true) is (stopped (ap (λ (q : Execution). q.is_over) is ∙ o));
        out = λ r j i o. let is : next ≡ r = cc in out j (ap (λ (q : Execution). q.phase) is ∙ o);
        runs = k.runs;
      }) d

  pub logs_does : (h : WorkerContext) (es : List Entry) → Does h → Does (logs_all h es)
  logs_does h es d = record { who = d.who; home = d.home; goes = logs_goes c.jobs (workers_with h.worker) c.network n h.there es d.goes }

  -- a true envelope is sent
  says_does : (h : WorkerContext) (to : Endpoint) (m : Message) → IsTrue (look_here h) (sent_here h) (envelope (TheWorker h.me) to m) → Does h →
      Does (with_there h (posts h.there (envelope (TheWorker h.me) to m)))
  says_does h to m is d = record { who = d.who; home = d.home; goes = worker_says_goes c.jobs (workers_with h.worker) c.network n h.there h.me to m is d.goes }

  -- a worker whose attempt isn't over isn't wanted for another
  pub busy_unwanted : (h : WorkerContext) (run : Execution) → h.worker.run ≡ Some run → run.is_over ≡ false → Does h → IsUnwanted (look_here h) (sent_here h) n me
  busy_unwanted h run e over d a wanted =
      let i : ◌≡◌ {A = Option Worker} (Some h.worker) (Some wanted.worker) = sym (at_me h.worker h.there.opened) ∙ wanted.there in
      let is : h.worker ≡ wanted.worker = cc in
      let p = d.goes.there.promised me wanted.worker a wanted.there wanted.lives wanted.given wanted.unbegun in
      never_busy wanted.worker run p.free (ap (λ (x : Worker). x.run) (sym is) ∙ e) over

  pub frees_does : (h : WorkerContext) → IsUnwanted (look_here h) (sent_here h) n me → Does h → Does (gives_slot_back h)
  frees_does h unwanted d = record {
    who = d.who;
    home = d.home;
    goes = frees_goes c.jobs (workers_with h.worker) c.network n h.there h.me
        (subst (λ w. IsUnwanted (look_here h) (sent_here h) n w) (sym d.who) unwanted) d.goes;
  }

  asks_does : (h : WorkerContext) → Does h → Does (asks_for_slot h)
  asks_does h d = record { who = d.who; home = d.home; goes = asks_slot_goes c.jobs (workers_with h.worker) c.network n h.there h.me d.goes }

  -- an attempt that waits isn't over
  pub waits_on : (h : WorkerContext) (run : Execution) (y : Id) (f : Option Fetching) → h.worker.run ≡ Some run → run.phase ≡ Waits y f → Does h → run.is_over ≡ false
  waits_on h run y f e q d = false_from_ne_true run.is_over (λ o. let s = (mine h d).stopped run e o in
      let g : has_stopped (Waits y f) ≡ true = ap has_stopped (sym q) ∙ s in absurd (cc))

  -- ---- what is known of messages that come

  pub record IsToldBy (w : ℕ) (a : Attempt) : Type 0 where
    pub to : Endpoint
    pub message : Message
    pub came : Among (envelope (TheWorker w) to message) c.network
    pub tells : (look : Look) (sent : List Envelope) → IsTrueBetween look sent (TheWorker w) to message → IsDone look w a

  pub record IsOverOf (a : Attempt) : Type 0 where
    pub from : Endpoint
    pub came : Among (envelope from (TheWorker me) (FinishedAck a)) c.network

  abbrev pub IsGivenBy : ℕ → ℕ → Attempt → ℕ → Type 0
  IsGivenBy m t a w = Gave c.network m a w

  pub was_sent : (h : WorkerContext) → More c.network (sent_here h)
  was_sent h l i = among-more c.network h.there.out.envelopes l i

  done_here : (h : WorkerContext) (run : Execution) → h.worker.run ≡ Some run → run.is_over ≡ true → Does h → IsDone (look_here h) me run.attempt
  done_here h run e o d = record {
    worker = h.worker;
    there = at_me h.worker h.there.opened;
    done = record {
      listed = (mine h d).present run e;
      over = λ r i _. let g : ◌≡◌ {A = Option Execution} (Some run) (Some r) = sym e ∙ i in
          let is : run ≡ r = cc in ap (λ (q : Execution). q.is_over) (sym is) ∙ o;
    };
  }

  by_me : (h : WorkerContext) (a : Attempt) → Does h → IsDone (look_here h) me a → IsDone (look_here h) h.me a
  by_me h a d i = subst (λ w. IsDone (look_here h) w a) (sym d.who) i

  -- an attempt of an own task begins on the worker that was given
  begins_does : (h : WorkerContext) (o : Id) (task : OwnTask) (w m : ℕ) → o.owner ≡ h.me → Gave c.network m (attempt o task.number) w → Does h →
      Does (with_task_of h o (with_begun task w m))
  begins_does h o task w m own given d =
      let k = mine h d in
      let begun : OwnTask = with_begun task w m in
      worker_does h (with_task_of h o begun).worker (record { node = refl; live = λ i. i; began = refl; going = λ r i over. (r, i, refl, over) })
      (record {
        began = k.began;
        present = k.present;
        stopped = k.stopped;
        out = k.out;
        runs = λ i t v q e f. by_item i t v q f (item_at (with_task_of h o begun).worker.objects i) refl e;
      }) d
    where
      id_of : (i : ℕ) → i ≡ o.serial → o ≡ object_id me i
      id_of i e = let f : o.owner ≡ me = own ∙ d.who in ap (λ u. object_id u o.serial) f ∙ ap (object_id me) (sym e)

      same_locations : (v q : ℕ) → RunsOn w m ≡ RunsOn v q → (w ≡ v) × (m ≡ q)
      same_locations v q e = (cc, cc)

      new_task_runs : (i : ℕ) (t : OwnTask) (v q : ℕ) → i ≡ o.serial → ◌≡◌ {A = Option OwnTask} (Some (with_begun task w m)) (Some t) →
          t.progress ≡ RunsOn v q → Gave (sent_here h) q (attempt (object_id me i) t.number) v
      new_task_runs i t v q e f p =
          let is : with_begun task w m ≡ t = cc in
          let locations = same_locations v q (ap (λ (u : OwnTask). u.progress) is ∙ p) in
          let a : attempt o task.number ≡ attempt (object_id me i) t.number =
          ap (λ u. attempt u task.number) (id_of i e) ∙ ap (λ (u : OwnTask). attempt (object_id me i) u.number) is in
          let given_here : Gave (sent_here h) m (attempt o task.number) w = gave_more c.network (sent_here h) m (attempt o task.number) w (was_sent h) given in
          subst (λ u. Gave (sent_here h) u (attempt (object_id me i) t.number) v) locations.1
          (subst (λ u. Gave (sent_here h) m (attempt (object_id me i) t.number) u) locations.0 (subst (λ b. Gave (sent_here h) m b w) a given_here))

      by_item : (i : ℕ) (t : OwnTask) (v q : ℕ) → t.progress ≡ RunsOn v q → (x : Option Object) →
          item_at (with_task_of h o (with_begun task w m)).worker.objects i ≡ x → task_of x ≡ Some t →
          Gave (sent_here h) q (attempt (object_id me i) t.number) v
      by_item i t v q p None at e = absurd (cc)
      by_item i t v q p (Some z) at e = elim (changed_cases h.worker.objects o.serial i (with_task (with_begun task w m)) z at) [
        | inl (same, y, _, is) ↦ new_task_runs i t v q same (ap (λ (u : Object). task_in u.source) (sym is) ∙ e) p
        | inr (_, before) ↦ (mine h d).runs i t v q (ap task_of before ∙ e) p
      ]

  tame_does : (h : WorkerContext) (x : Worker) → IsTame h.worker x → Does h → Does (with_worker h x)
  tame_does h x t d =
      let k = mine h d in
      worker_does h x
      (record { node = t.node; live = λ i. sym t.live ∙ i; began = t.began; going = λ r i over. (r, sym t.run ∙ i, refl, over) })
      (record {
        began = λ a e. k.began a (ap (has_begun a) (sym t.began) ∙ e);
        present = λ r i. ap (has_begun r.attempt) t.began ∙ k.present r (sym t.run ∙ i);
        stopped = λ r i o. k.stopped r (sym t.run ∙ i) o;
        out = λ r j i o. k.out r j (sym t.run ∙ i) o;
        runs = λ i task v q e p.
            let b = t.runs i task v q e p in
            subst (λ number. Gave (sent_here h) q (attempt (object_id me i) number) v) b.numbered (k.runs i b.task v q b.at b.progress);
      }) d

  -- a Push of what was given
  pushes_does : (h : WorkerContext) (a : Attempt) (spec : Birth) (w m : ℕ) → Gave (sent_here h) m a w → Does h → Does (says h w (Push a spec))
  pushes_does h a spec w m given d = says_does h (TheWorker w) (Push a spec) (record { owner = h.me; from_worker = refl; node = m; given = given }) d

  -- an own attempt is asked for
  asked_does : (h : WorkerContext) (o : Id) (task : OwnTask) (t m : ℕ) → Does h → Does (asks_at h o task t m)
  asked_does h o task t m d =
      let next : OwnTask = record task { progress = AskedAt t m } in
      says_does (with_task_of h o next) (TheNode m) (Ask (attempt o task.number) t) tt
      (tame_does h (with_task_of h o next).worker (task_tame h.worker o.serial next (λ v k e. asked_not_run t m v k e)) d)

  pub does_kept : IsKept IsToldBy IsOverOf IsGivenBy AnyPassed Does
  does_kept = record {
    writes = λ h es d. logs_does h es d;
    says_plain = λ h w m plain d. says_does h (TheWorker w) m (plain_true (look_here h) (sent_here h) (TheWorker h.me) (TheWorker w) m plain) d;
    says_plain_to_node = λ h k m plain d. says_does h (TheNode k) m (plain_true (look_here h) (sent_here h) (TheWorker h.me) (TheNode k) m plain) d;
    objects = λ h x t d. tame_does h x t.tame d;
    store = λ h s d. record { who = d.who; home = d.home; goes = store_goes c.jobs (workers_with h.worker) c.network n h.there s d.goes };
    begins = λ h o task w m t i own _ _ given d.
        let begun : OwnTask = with_begun task w m in
        let g : WorkerContext = logs (with_task_of h o begun) (Begun (attempt o task.number) w) in
        pushes_does g (attempt o task.number) task.spec w m (gave_more c.network (sent_here g) m (attempt o task.number) w (was_sent g) given)
        (logs_does (with_task_of h o begun) (Begun (attempt o task.number) w ∷ []) (begins_does h o task w m own given d));
    pushes_again = λ h k task w m e q d.
        pushes_does h (attempt (own_id h k) task.number) task.spec w m
        (subst (λ u. Gave (sent_here h) m (attempt (object_id u k) task.number) w) (sym d.who) ((mine h d).runs k task w m e q)) d;
    bears_new = λ h a spec others ids d. tame_does h _ (born_tame h.worker a (length h.worker.objects + 1) spec others ids) d;
    comes_to_rest = λ h o task _ _ d. tame_does h (with_task_of h o (rests task)).worker (task_tame h.worker o.serial (rests task) rest_not_run) d;
    asks_anew = λ h o old task _ _ d. asked_does h o task 0 h.worker.node d;
    asks_on = λ h o task t m k _ _ _ d. asked_does h o task (t + 1) k d;
    asks_again = λ h k task t m _ _ d. says_does h (TheNode m) (Ask (attempt (own_id h k) task.number) t) tt d;
    run = λ h run next e k d.
        run_does h run next e k.attempt (λ o. k.over ∙ o)
        (λ o. pace_stopped next.phase (k.pace ∙ stopped_pace run.phase ((mine h d).stopped run e (sym k.over ∙ o))))
        (λ j o. (mine h d).out run j e (out_pace run.phase j (sym k.pace ∙ ap pace_in o))) d;
    leaves = λ h run next e s same phase over d.
        run_does h run next e same (λ _. over) (λ _. ap has_stopped phase ∙ s)
        (λ j o. (mine h d).out run j e (sym phase ∙ o)) d;
    gets = λ h run content y f e q d.
        let next : Execution = with_answer run content in
        let over : run.is_over ≡ false = waits_on h run y f e q d in
        asks_does (logs (with_run h next) (Got run.attempt y content)) (logs_does (with_run h next) (Got run.attempt y content ∷ [])
        (run_does h run next e refl (λ o. o) (λ o. absurd (both_ways run.is_over over o)) (λ j o. absurd (cc)) d));
    faults = λ h run fault y f e q d.
        let next : Execution = record run { phase = HasFaulted fault } in
        let over : run.is_over ≡ false = waits_on h run y f e q d in
        let g : WorkerContext = logs (with_run h next) (Faulted run.attempt y fault) in
        let faulted : Does g = logs_does (with_run h next) (Faulted run.attempt y fault ∷ [])
        (run_does h run next e refl (λ o. o) (λ _. refl) (λ j o. absurd (cc)) d) in
        frees_does g (busy_unwanted g next refl over faulted) faulted;
    frees = λ h run y f e q d. frees_does h (busy_unwanted h run e (waits_on h run y f e q d) d) d;
    tells_end = λ h run m rs e o d. says_does h (TheWorker (owner_of run)) (Finished run.attempt m rs) (by_me h run.attempt d (done_here h run e o d)) d;
    tells_fault = λ h run f e o d. says_does h (TheWorker (owner_of run)) (Failed run.attempt f) (by_me h run.attempt d (done_here h run e o d)) d;
    back = λ h run e o d.
        let done : IsDone (look_here h) h.me run.attempt = by_me h run.attempt d (done_here h run e o d) in
        says_does h (TheNode h.worker.node) (Back run.attempt) (home_of h run.attempt d done) d;
    hears = λ h w a told d. says_does h (TheWorker w) (FinishedAck a)
        (told.tells (look_here h) (sent_here h) (d.goes.workers.envelopes _ (was_sent h _ told.came))) d;
    back_of = λ h m a same over d.
        let done : IsDone (look_here h) me a = d.goes.workers.envelopes _ (was_sent h _ over.came) in
        subst (λ k. Does (with_there h (posts h.there (envelope (TheWorker h.me) (TheNode k) (Back a))))) (sym same)
        (says_does h (TheNode h.worker.node) (Back a) (home_of h a d (by_me h a d done)) d);
  }
    where
      home_of : (h : WorkerContext) (a : Attempt) → Does h → IsDone (look_here h) h.me a → IsBack (look_here h) h.worker.node h.me a
      home_of h a d i =
          let g : ◌≡◌ {A = Option Worker} (Some h.worker) (Some i.worker) =
          sym (at_me h.worker h.there.opened) ∙ subst (λ w. look_here h w ≡ Some i.worker) d.who i.there in
          let is : h.worker ≡ i.worker = cc in
          record { done = i; home = ap (λ (x : Worker). x.node) (sym is) }

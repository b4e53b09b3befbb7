-- What was true of leases stays so as workers go on, envelopes are sent and workers are opened.
use Rattle.std.proofs.Common.{◌≡◌, ℕ, zero, suc, List, Some, None, Option, refl, ap, sym, ◌∙◌, ◌⊎◌, inl, inr}
use Rattle.std.specs.Prelude.{true, false}
use Rattle.std.proofs.lemmas.Bool.{both_ways, true_from_ne_false}
use Rattle.event_log.specs.Entries.{Attempt}
use Rattle.event_log.specs.Breaks.{Among}
use Rattle.protocol_laws.specs.of_protocol.Messages.{Envelope, Message, Endpoint, TheWorker, TheNode, Ask, Give, Elsewhere, Wait, Back, Push, Finished, FinishedAck, Failed}
use Rattle.protocol_laws.specs.of_protocol.Messages.{Where, At, Gone, Fetch, CopyOf, Missing, Hold, HoldAck, Unhold}
use Rattle.protocol_laws.specs.of_protocol.Numbered.{item_at}
use Rattle.protocol_laws.specs.of_protocol.Jobs.{JobRecord}
use Rattle.protocol_laws.specs.of_protocol.Nodes.{Scheduler}
use Rattle.protocol_laws.specs.of_protocol.Runs.{is_free}
use Rattle.protocol_laws.specs.of_protocol.Tables.{OwnTask, Execution, Worker, new_worker, task_of}
use Rattle.protocol_laws.specs.of_protocol_owed.Courses.{has_begun}
use Rattle.lease_discipline.specs.Discipline.{Look, Gave, IsDoneAt, NodeKeeps, IsOfNode, IsTrueBetween, IsTrue}
use Rattle.lease_discipline.specs.Discipline.{SaysBack, SaysDone, SaysGiven, SaysPushed, IsBegunBy, WorkerKeeps}

-- ---- runs

-- a free worker has no attempt that isn't over
pub never_busy : (x : Worker) (run : Execution) → is_free x.run ≡ true → x.run ≡ Some run → run.is_over ≡ false → ⊥
never_busy x run free e over = both_ways run.is_over over (sym (ap is_free e) ∙ free)

free_by : (r : Option Execution) → ((run : Execution) → r ≡ Some run → run.is_over ≡ false → ⊥) → is_free r ≡ true
free_by None f = refl
free_by (Some run) f = true_from_ne_false run.is_over (f run refl)

pub free_unless_busy : (x : Worker) → ((run : Execution) → x.run ≡ Some run → run.is_over ≡ false → ⊥) → is_free x.run ≡ true
free_unless_busy x f = free_by x.run f

-- ---- a worker goes on

-- x has become y, which began no other attempt, and whose attempt isn't over only where it wasn't before
pub record Follows (x y : Worker) : Type 0 where
  pub node : y.node ≡ x.node
  pub live : y.is_live ≡ true → x.is_live ≡ true
  pub began : y.began ≡ x.began
  pub going : (next : Execution) → y.run ≡ Some next → next.is_over ≡ false → (run : Execution) × (x.run ≡ Some run) × (run.attempt ≡ next.attempt) × (run.is_over ≡ false)

pub stays : (x : Worker) → Follows x x
stays x = record { node = refl; live = λ e. e; began = refl; going = λ next e f. (next, e, refl, f) }

pub freed : (x y : Worker) → Follows x y → is_free x.run ≡ true → is_free y.run ≡ true
freed x y f free = free_unless_busy y (λ next e over. let g = f.going next e over in never_busy x g.0 free g.1 g.3)

pub still_done : (x y : Worker) (a : Attempt) → Follows x y → IsDoneAt a x → IsDoneAt a y
still_done x y a f d = record {
  listed = ap (has_begun a) f.began ∙ d.listed;
  over = λ next e is. true_from_ne_false next.is_over (λ over.
      let g = f.going next e over in both_ways g.0.is_over g.3 (d.over g.0 g.1 (g.2 ∙ is)));
}

pub record AllFollow (look next : Look) : Type 0 where
  pub back : (w : ℕ) (y : Worker) → next w ≡ Some y → (x : Worker) × (look w ≡ Some x) × Follows x y
  pub forth : (w : ℕ) (x : Worker) → look w ≡ Some x → (y : Worker) × (next w ≡ Some y) × Follows x y

-- workers were opened
pub record Adds (look next : Look) : Type 0 where
  pub back : (w : ℕ) (y : Worker) → next w ≡ Some y → (look w ≡ Some y) ⊎ ((look w ≡ None) × ((m : ℕ) × (new_worker m ≡ y)))
  pub forth : (w : ℕ) (x : Worker) → look w ≡ Some x → next w ≡ Some x

-- what is asked of both by envelopes
abbrev pub Grows : Look → Look → Type 0
Grows look next = (w : ℕ) (x : Worker) → look w ≡ Some x → (y : Worker) × (next w ≡ Some y) × (y.node ≡ x.node) × ((a : Attempt) → IsDoneAt a x → IsDoneAt a y)

pub same_grows : (look : Look) → Grows look look
same_grows look w x e = (x, e, refl, λ a d. d)

pub follow_grows : (look next : Look) → AllFollow look next → Grows look next
follow_grows look next all w x e = let f = all.forth w x e in (f.0, f.1, f.2.node, λ a d. still_done x f.0 a f.2 d)

pub adds_grows : (look next : Look) → Adds look next → Grows look next
adds_grows look next adds w x e = (x, adds.forth w x e, refl, λ a d. d)

-- ---- envelopes

abbrev pub More : List Envelope → List Envelope → Type 0
More sent next = (l : Envelope) → Among l sent → Among l next

pub gave_more : (s t : List Envelope) (n : ℕ) (a : Attempt) (w : ℕ) → More s t → Gave s n a w → Gave t n a w
gave_more s t n a w more g = (g.0, more _ g.1)

pub begun_more : (s t : List Envelope) (w : ℕ) (a : Attempt) → More s t → IsBegunBy s w a → IsBegunBy t w a
begun_more s t w a more (inl e) = inl e
begun_more s t w a more (inr p) = inr (p.0, p.1, more _ p.2)

module _ (look next : Look) (s t : List Envelope) (grows : Grows look next) (more : More s t) where
  done_more : (from : Endpoint) (a : Attempt) → SaysDone look from a → SaysDone next from a
  done_more (TheNode n) a d = tt
  done_more (TheWorker w) a d = let g = grows w d.worker d.there in record { worker = g.0; there = g.1; done = g.3 a d.done }

  back_more : (from to : Endpoint) (a : Attempt) → SaysBack look from to a → SaysBack next from to a
  back_more (TheNode m) (TheNode n) a d = tt
  back_more (TheNode m) (TheWorker w) a d = tt
  back_more (TheWorker v) (TheWorker w) a d = tt
  back_more (TheWorker w) (TheNode n) a d =
      let x = d.done in
      let g = grows w x.worker x.there in
      record { done = record { worker = g.0; there = g.1; done = g.3 a x.done }; home = g.2 ∙ d.home }

  given_more : (from : Endpoint) (w : ℕ) → SaysGiven look from w → SaysGiven next from w
  given_more (TheWorker v) w d = tt
  given_more (TheNode n) w d = let g = grows w d.worker d.there in record { worker = g.0; there = g.1; home = g.2 ∙ d.home }

  pushed_more : (from to : Endpoint) (a : Attempt) → SaysPushed s from to a → SaysPushed t from to a
  pushed_more from (TheNode n) a d = tt
  pushed_more from (TheWorker w) a d = record { owner = d.owner; from_worker = d.from_worker; node = d.node; given = gave_more s t d.node a w more d.given }

  between_more : (from to : Endpoint) (m : Message) → IsTrueBetween look s from to m → IsTrueBetween next t from to m
  between_more from to (Finished a n rs) d = done_more from a d
  between_more from to (Failed a f) d = done_more from a d
  between_more from to (Back a) d = back_more from to a d
  between_more from to (FinishedAck a) d = done_more to a d
  between_more from to (Give a i w) d = given_more from w d
  between_more from to (Push a spec) d = pushed_more from to a d
  between_more from to (Ask a i) d = tt
  between_more from to (Elsewhere a i n) d = tt
  between_more from to (Wait a i) d = tt
  between_more from to (Where o) d = tt
  between_more from to (At o number ns kept) d = tt
  between_more from to (Gone o f) d = tt
  between_more from to (Fetch o number) d = tt
  between_more from to (CopyOf o number c) d = tt
  between_more from to (Missing o number n) d = tt
  between_more from to (Hold e o) d = tt
  between_more from to (HoldAck e o) d = tt
  between_more from to (Unhold e o why) d = tt

  pub true_more : (l : Envelope) → IsTrue look s l → IsTrue next t l
  true_more l d = between_more l.sender l.receiver l.message d

pub worker_more : (jobs : List JobRecord) (s t : List Envelope) (w : ℕ) (x : Worker) → More s t → WorkerKeeps jobs s w x → WorkerKeeps jobs t w x
worker_more jobs s t w x more k = record {
  began = λ a e. begun_more s t w a more (k.began a e);
  present = k.present;
  stopped = k.stopped;
  out = k.out;
  runs = λ i task v n e q. gave_more s t n _ v more (k.runs i task v n e q);
}

-- jobs that were given stay given to whom they were
abbrev pub JobsStay : List JobRecord → List JobRecord → Type 0
JobsStay jobs next = (j : ℕ) (g : JobRecord) → item_at jobs j ≡ Some g → (h : JobRecord) × (item_at next j ≡ Some h) × (h.worker ≡ g.worker)

pub jobs_more : (jobs next : List JobRecord) (s : List Envelope) (w : ℕ) (x : Worker) → JobsStay jobs next → WorkerKeeps jobs s w x → WorkerKeeps next s w x
jobs_more jobs next s w x stay k = record {
  began = k.began;
  present = k.present;
  stopped = k.stopped;
  out = λ run j e out. let g = k.out run j e out in let h = stay j g.0 g.1 in (h.0, h.1, h.2 ∙ g.2);
  runs = k.runs;
}

pub new_keeps : (jobs : List JobRecord) (s : List Envelope) (w m : ℕ) → WorkerKeeps jobs s w (new_worker m)
new_keeps jobs s w m = record {
  began = λ a e. absurd (cc);
  present = λ run e. absurd (cc);
  stopped = λ run e. absurd (cc);
  out = λ run j e. absurd (cc);
  runs = λ k task v n e. absurd (none k task e);
}
  where
    none : (k : ℕ) (task : OwnTask) → task_of (item_at (new_worker m).objects k) ≡ Some task → ⊥
    none zero task e = cc
    none (suc i) task e = cc

-- ---- a node's clauses

pub node_follows : (look next : Look) (s : List Envelope) (n : ℕ) (sch : Scheduler) → AllFollow look next → NodeKeeps look s n sch → NodeKeeps next s n sch
node_follows look next s n sch all k = record {
  idle = λ w e.
      let i = k.idle w e in
      let f = all.forth w i.worker i.there in
      record { worker = f.0; there = f.1; home = f.2.node ∙ i.home; free = freed i.worker f.0 f.2 i.free; slotless = i.slotless; unanswered = i.unanswered };
  promised = λ w y a at live given unbegun.
      let b = all.back w y at in
      let p = k.promised w b.0 a b.1 (b.2.live live) given (ap (has_begun a) (sym b.2.began) ∙ unbegun) in
      record { free = freed b.0 y b.2 p.free; leased = p.leased; sole = p.sole; slot = p.slot };
  busy = λ w y next_run at home e over.
      let b = all.back w y at in
      let g = b.2.going next_run e over in
      λ c l. k.busy w b.0 g.0 b.1 (sym b.2.node ∙ home) g.1 g.3 c l ∙ g.2;
  replied = k.replied;
}

-- no Give of the node is new
pub node_envelopes : (look : Look) (s t : List Envelope) (n : ℕ) (sch : Scheduler) → More s t → ((a : Attempt) (w : ℕ) → Gave t n a w → Gave s n a w) →
    NodeKeeps look s n sch → NodeKeeps look t n sch
node_envelopes look s t n sch more old k = record {
  idle = k.idle;
  promised = λ w x a at live given unbegun. k.promised w x a at live (old a w given) unbegun;
  busy = k.busy;
  replied = λ key w e. gave_more s t n _ w more (k.replied key w e);
}

-- whoever was opened was never given before
pub node_adds : (look next : Look) (s : List Envelope) (n : ℕ) (sch : Scheduler) → Adds look next → ((a : Attempt) (w : ℕ) → Gave s n a w → IsOfNode look n w) →
    NodeKeeps look s n sch → NodeKeeps next s n sch
node_adds look next s n sch adds given_there k = record {
  idle = λ w e.
      let i = k.idle w e in
      record { worker = i.worker; there = adds.forth w i.worker i.there; home = i.home; free = i.free; slotless = i.slotless; unanswered = i.unanswered };
  promised = λ w y a at live given unbegun. elim (adds.back w y at) [
    | inl old ↦ k.promised w y a old live given unbegun
    | inr (none, new) ↦ let there = given_there a w given in let f = there.there in absurd (cc)
  ];
  busy = λ w y run at home e over. elim (adds.back w y at) [
    | inl old ↦ k.busy w y run old home e over
    | inr (none, new) ↦ let is = new.1 in let f : ◌≡◌ {A = Option Execution} None (Some run) = ap (λ (x : Worker). x.run) is ∙ e in absurd (cc)
  ];
  replied = k.replied;
}

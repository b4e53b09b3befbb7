-- As long as nothing was killed or lost, every event keeps what is true of Pushes and Holds.
use Rattle.meaning.specs.Births.{Part, birth_at, is_made_by}
use Rattle.meaning.specs.Values.{Birth, Id, Outcome, results_of}
use Rattle.meaning.proofs.BirthLaws.{made_below, made_owner}
use Rattle.event_log.specs.Words.{births, same_attempt, worker_of}
use Rattle.event_log.specs.Sane.{Sane}
use Rattle.event_log.proofs.SaneLaws.{legal_logs_are_sane}
use Rattle.event_log.proofs.Extending.{births-more}
use Rattle.owed_asks.specs.of_protocol_legal.Whole.{Between, setting_of}
use Rattle.owed_laws.proofs.HoldMoves.{ack_of, IsHolder, IsOfRun, item_cases, item_within, result_more, run_more, RunHolds}
use Rattle.std.proofs.Common.{[], ap, arith, inl, inr, length, length-append, List, None, Option, refl, Some, subst, suc, sym, zero, ℕ, ◌++◌, ◌+◌, ◌<◌, ◌∙◌}
use Rattle.std.proofs.Common.{◌∷◌, ◌≡◌, ◌≤◌, ◌⊎◌}
use Rattle.std.specs.Prelude.{Bool, true, false}
use Rattle.event_log.specs.Breaks.{Among}
use Rattle.event_log.specs.Entries.{Attempt, Deliver, Ended, Entry, Event, In, main_attempt}
use Rattle.event_log.specs.Events.{accepted_events}
use Rattle.event_log.specs.Rules.{Setting}
use Rattle.step_laws.specs.Counting.{item_of}
use Rattle.protocol.specs.Messages.{Hold, HoldAck, Envelope, Message, Endpoint, Push, TheWorker, envelope}
use Rattle.protocol.specs.Numbered.{changed_at, item_at}
use Rattle.protocol.specs.Sets.{repeated}
use Rattle.protocol.specs.Steps.{WorkerContext}
use Rattle.protocol.specs.Tables.{Holding, Execution, Worker, new_worker}
use Rattle.protocol.specs.Cluster.{Transition, ClusterState, worker_at}
use Rattle.owed_asks.specs.of_protocol_legal.Past.{past}
use Rattle.owed_asks.specs.of_protocol_legal.Says.{IsPushed, Says}
use Rattle.protocol_owed.specs.Courses.{has_begun}
use Rattle.protocol_owed.specs.Seen.{IsCalm}
use Rattle.protocol_owed.proofs.CourseEvents.{append_split, one_of}
use Rattle.protocol_owed.proofs.Envelopes.{among-append_cases, among-more}
use Rattle.protocol_owed.proofs.Nodes.{changed_cases, there_more}
use Rattle.owed_asks.specs.of_lease_discipline.Asks.{KeepsAsks, Touched}
use Rattle.owed_asks.specs.of_lease_discipline.Told.{IsInStep}
use Rattle.owed_asks.proofs.of_lease_discipline.Events.{among_at}
use Rattle.owed_replies.specs.Kept.{KeepsReplies}
use Rattle.owed_replies.proofs.Advancing.{all_among}
use Rattle.owed_laws.proofs.HoldFacts.{only_first}

-- ---- between two events

abbrev pub push_by : ℕ → ℕ → Attempt → Birth → Envelope
push_by u w a spec = envelope (TheWorker u) (TheWorker w) (Push a spec)

-- the attempt ended
abbrev pub HasEnd : List Entry → Attempt → Type 0
HasEnd log a = (c : List Outcome) × Among (Ended a c) log

-- all objects of the attempt's task were born before that serial
abbrev pub IsBelow : List Entry → Attempt → ℕ → Type 0
IsBelow log a base = (spec : Birth) × (birth_at (births log) a.object ≡ Some spec) × (a.object.serial + results_of spec ≤ base)

pub below_more : (log es : List Entry) (a : Attempt) (base : ℕ) → IsBelow log a base → IsBelow (log ++ es) a base
below_more log es a base (spec, born, below) = (spec, births-more log es a.object spec born, below)

-- an object of a task with that birth
abbrev pub IsPartOfTask : Attempt → Birth → Id → Type 0
IsPartOfTask a spec e = is_made_by (record { object = a.object; birth = spec }) e ≡ true

-- a worker's attempt: where it was first pushed to it, what is true of its Holds, and that what the worker began was born before
pub record RunKeeps (log : List Entry) (sent : List Envelope) (acks : List Event) (w : ℕ) (x : Worker) (run : Execution) : Type 0 where
  pub place : ℕ
  pub within : place < length sent + 1
  pub pushed : same_attempt run.attempt main_attempt ≡ false →
      (spec : Birth) × (item_at sent place ≡ Some (push_by run.attempt.object.owner w run.attempt spec))
      × ((i : ℕ) (other : Birth) → i < place → item_at sent i ≡ Some (push_by run.attempt.object.owner w run.attempt other) → ⊥)
  pub holds : RunHolds log sent acks w place run
  pub apart : (a : Attempt) → has_begun a x.began ≡ true → a.object.owner ≡ w → IsBelow log a run.base.serial

pub record KeepsHolds (log : List Entry) (c : ClusterState) : Type 0 where
  -- an attempt is pushed by its owner
  pub pushes : (u w : ℕ) (a : Attempt) (spec : Birth) → Among (push_by u w a spec) c.network → u ≡ a.object.owner
  -- behind the Push of an attempt its worker sends a Hold of an object of its task only once the attempt ended
  pub behind : (p i u w v : ℕ) (a : Attempt) (spec : Birth) (f o : Id) → IsPartOfTask a spec f → p < i → item_at c.network p ≡ Some (push_by u w a spec) →
      item_at c.network i ≡ Some (envelope (TheWorker w) (TheWorker v) (Hold f o)) → HasEnd log a
  pub runs : (w : ℕ) (x : Worker) (run : Execution) → worker_at c w ≡ Some x → x.run ≡ Some run → RunKeeps log c.network (accepted_events log) w x run

-- ---- one event

pub run_later : (log es : List Entry) (sent : List Envelope) (acks : List Event) (w p : ℕ) (run : Execution) → RunHolds log sent acks w p run →
    RunHolds (log ++ es) sent acks w p run
run_later log es sent acks w p run r = record {
  over = r.over;
  each = λ k i. later run.attempt run.base.serial k.holder (r.each k i);
  held = λ other k i.
      let h = r.held other k i in
      record { entry = born k.holder run.attempt h.entry; sends = h.sends; unheard = h.unheard };
}
  where
    later : (a : Attempt) (base : ℕ) (e : Id) → IsHolder log w a base e → IsHolder (log ++ es) w a base e
    later a base e (inl (r, (c, i))) = inl (result_more log es a e r, (c, among-more log es _ i))
    later a base e (inr own) = inr own

    born : (e : Id) (a : Attempt) → IsOfRun log a e → IsOfRun (log ++ es) a e
    born e a (inl r) = inl (result_more log es a e r)
    born e a (inr (o, b, i, made)) = inr (o, b, among-more log es _ i, made)

-- with one more event, which acknowledges none of these
run_acked : (log : List Entry) (sent : List Envelope) (acks : List Event) (e : Event) (w p : ℕ) (run : Execution) → RunHolds log sent acks w p run →
    ((k : Holding) → Among k run.holds → (n : ℕ) → e ≡ Deliver n → item_at sent n ≡ Some (ack_of w k) → ⊥) → RunHolds log sent (acks ++ e ∷ []) w p run
run_acked log sent acks e w p run r none = record {
  over = r.over;
  each = r.each;
  held = λ other k i.
      let h = r.held other k i in
      record {
        entry = h.entry;
        sends = h.sends;
        unheard = λ n j came ack far hold. elim (among-append_cases acks (e ∷ []) (Deliver n) came) [
          | inl old ↦ h.unheard n j old ack far hold
          | inr new ↦ absurd (none k i n (only n new) ack)
        ];
      };
}
  where
    only : (n : ℕ) → Among (Deliver n) (e ∷ []) → e ≡ Deliver n
    only n (zero, f) = cc
    only n (suc k, f) = absurd (cc)

same_envelope : (k l : Envelope) → ◌≡◌ {A = Option Envelope} (Some k) (Some l) → k ≡ l
same_envelope k l e = cc

some_run : (x y : Execution) → ◌≡◌ {A = Option Execution} (Some x) (Some y) → x ≡ y
some_run x y e = cc

attempt_parts : (a b : Attempt) → a.object ≡ b.object → a.number ≡ b.number → a ≡ b
attempt_parts a b e f = ap (λ (o : Id). at o a.number) e ∙ ap (λ n. at b.object n) f
  where
    at : Id → ℕ → Attempt
    at o n = record { object = o; number = n }

module _ (s : Setting) (log : List Entry) (c : ClusterState) (step : IsInStep s log c) (replies : KeepsReplies log c) (k : KeepsHolds log c) (e : Event) (seat : ℕ)
    (m : Transition) (after : IsInStep s (log ++ In e seat ∷ m.out.entries) m.whole) (asks : KeepsAsks m.whole)
    (calm : IsCalm (log ++ In e seat ∷ m.out.entries))
    (accepted : accepted_events (log ++ In e seat ∷ m.out.entries) ≡ accepted_events log ++ e ∷ [])
    (network : m.whole.network ≡ c.network ++ m.out.envelopes)
    (sent : (n : ℕ) → e ≡ Deliver n → (l : Envelope) × (item_at c.network n ≡ Some l)) where
  abbrev next : List Entry
  next = log ++ In e seat ∷ m.out.entries

  abbrev b : Between s next m.whole
  b = after.sound.between

  -- what the event's envelopes and attempts have to be
  pub record Goes : Type 0 where
    pub pushes : (u w : ℕ) (a : Attempt) (spec : Birth) → Among (push_by u w a spec) m.out.envelopes → u ≡ a.object.owner
    pub says : (u w v : ℕ) (a : Attempt) (spec : Birth) (f o : Id) → IsPartOfTask a spec f → Among (envelope (TheWorker w) (TheWorker v) (Hold f o)) m.out.envelopes →
        Among (push_by u w a spec) m.whole.network → HasEnd next a
    pub runs : (w : ℕ) (x : Worker) (run : Execution) → worker_at m.whole w ≡ Some x → x.run ≡ Some run → RunKeeps next m.whole.network (accepted_events next) w x run

  end_more : (a : Attempt) → HasEnd log a → HasEnd next a
  end_more a (x, i) = (x, among-more log (In e seat ∷ m.out.entries) _ i)

  pub gone : Goes → KeepsHolds next m.whole
  gone g = record {
    pushes = λ u w a spec i. elim (among-append_cases c.network m.out.envelopes (push_by u w a spec) (subst (λ ls. Among (push_by u w a spec) ls) network i)) [
      | inl old ↦ k.pushes u w a spec old
      | inr new ↦ g.pushes u w a spec new
    ];
    behind = λ p i u w v a spec f o made less pushed hold. elim (item_cases c.network m.out.envelopes i (envelope (TheWorker w) (TheWorker v) (Hold f o)) (ap (λ ls. item_at
        ls i) (sym network) ∙ hold)) [
          | inl old ↦ elim (item_cases c.network m.out.envelopes p (push_by u w a spec) (ap (λ ls. item_at ls p) (sym network) ∙ pushed)) [
            | inl was ↦ end_more a (k.behind p i u w v a spec f o made less was old)
            | inr new ↦
                let above = new.0 in
                let below = item_within c.network i (envelope (TheWorker w) (TheWorker v) (Hold f o)) old in
                absurd (omega (arith, above, below, less))
          ]
          | inr new ↦ g.says u w v a spec f o made new.1 (among_at m.whole.network p (push_by u w a spec) pushed)
        ];
    runs = g.runs;
  }

  known : (n : ℕ) → Among (Deliver n) (accepted_events log) → n < length c.network + 1
  known n i = let u = replies.delivered n i in item_within c.network n u.0 u.1

  -- an attempt with these Holds, none of which the event acknowledges
  pub keeps_on : (w : ℕ) (y : Worker) (run : Execution) (p : ℕ) → p < length c.network + 1 →
      (same_attempt run.attempt main_attempt ≡ false →
      (spec : Birth) × (item_at c.network p ≡ Some (push_by run.attempt.object.owner w run.attempt spec))
      × ((i : ℕ) (other : Birth) → i < p → item_at c.network i ≡ Some (push_by run.attempt.object.owner w run.attempt other) → ⊥)) →
      RunHolds next (c.network ++ m.out.envelopes) (accepted_events log) w p run →
      ((j : Holding) → Among j run.holds → (n : ℕ) → e ≡ Deliver n → item_at c.network n ≡ Some (ack_of w j) → ⊥) →
      ((a : Attempt) → has_begun a y.began ≡ true → a.object.owner ≡ w → IsBelow next a run.base.serial) →
      RunKeeps next m.whole.network (accepted_events next) w y run
  keeps_on w y run p within pushed holds unheard apart = record {
    place = p;
    within = let more = ap length network ∙ length-append c.network m.out.envelopes in omega (arith, within, more);
    pushed = λ other. let q = pushed other in (
      q.0,
      ap (λ ls. item_at ls p) network ∙ there_more c.network m.out.envelopes p (push_by run.attempt.object.owner w run.attempt q.0) q.1,
      λ i spec less at. earlier spec i less (q.2 i spec less) at,
    );
    holds = subst (λ es. RunHolds next m.whole.network es w p run) (sym accepted)
        (subst (λ ls. RunHolds next ls (accepted_events log ++ e ∷ []) w p run) (sym network)
        (run_acked next (c.network ++ m.out.envelopes) (accepted_events log) e w p run holds by_place));
    apart = apart;
  }
    where
      earlier : (spec : Birth) (i : ℕ) → i < p → (item_at c.network i ≡ Some (push_by run.attempt.object.owner w run.attempt spec) → ⊥) →
          item_at m.whole.network i ≡ Some (push_by run.attempt.object.owner w run.attempt spec) → ⊥
      earlier spec i less none at = elim (item_cases c.network m.out.envelopes i (push_by run.attempt.object.owner w run.attempt spec) (ap (λ ls. item_at ls i)
          (sym network) ∙ at)) [
            | inl old ↦ none old
            | inr new ↦ let above = new.0 in omega (arith, above, within, less)
          ]

      by_place : (j : Holding) → Among j run.holds → (n : ℕ) → e ≡ Deliver n → item_at (c.network ++ m.out.envelopes) n ≡ Some (ack_of w j) → ⊥
      by_place j i n is ack = elim (item_cases c.network m.out.envelopes n (ack_of w j) ack) [
        | inl old ↦ unheard j i n is old
        | inr new ↦
            let u = sent n is in
            let above = new.0 in
            let below = item_within c.network n u.0 u.1 in
            omega (arith, above, below)
      ]

  -- whose attempt goes on as it was
  pub stays : (w : ℕ) (x : Worker) (run : Execution) → worker_at c w ≡ Some x → x.run ≡ Some run →
      ((n : ℕ) (from : Endpoint) (l : Message) → e ≡ Deliver n → item_at c.network n ≡ Some (envelope from (TheWorker w) l) → ⊥) →
      RunKeeps next m.whole.network (accepted_events next) w x run
  stays w x run at is unheard =
      let r : RunKeeps log c.network (accepted_events log) w x run = k.runs w x run at is in
      keeps_on w x run r.place r.within r.pushed
      (run_more next c.network m.out.envelopes (accepted_events log) w r.place run known
      (run_later log (In e seat ∷ m.out.entries) c.network (accepted_events log) w r.place run r.holds))
      (λ j i n is_it ack. unheard n (TheWorker j.object.owner) (HoldAck j.holder j.object) is_it ack)
      (λ a begun own. below_more log (In e seat ∷ m.out.entries) a run.base.serial (r.apart a begun own))

  -- ---- an event of a worker

  module _ (me : ℕ) (x : Worker) (at : worker_at c me ≡ Some x) (home : ℕ) (last : WorkerContext)
      (workers : m.whole.workers ≡ changed_at c.workers me (λ _. last.worker) ++ repeated last.there.opened (new_worker home))
      (envelopes : m.out.envelopes ≡ last.there.out.envelopes)
      (to_me : (n w : ℕ) (from : Endpoint) (l : Message) → e ≡ Deliver n → item_at c.network n ≡ Some (envelope from (TheWorker w) l) → w ≡ me) where
    -- what is shown of the worker itself
    pub record Mine : Type 0 where
      pub runs : (run : Execution) → last.worker.run ≡ Some run → RunKeeps next m.whole.network (accepted_events next) me last.worker run
      pub own : (w : ℕ) (l : Envelope) → Among l last.there.out.envelopes → l.sender ≡ TheWorker w → w ≡ me
      pub pushes : (w : ℕ) (a : Attempt) (spec : Birth) → Among (push_by me w a spec) last.there.out.envelopes → a.object.owner ≡ me
      pub says : (u v : ℕ) (a : Attempt) (spec : Birth) (f o : Id) → IsPartOfTask a spec f → Among (envelope (TheWorker me) (TheWorker v) (Hold f o)) last.there.out.envelopes →
          Among (push_by u me a spec) m.whole.network → HasEnd next a

    pub worker_goes : Mine → Goes
    worker_goes mine = record {
      pushes = λ u w a spec i.
          let j = subst (λ ls. Among (push_by u w a spec) ls) envelopes i in
          let same : u ≡ me = mine.own u (push_by u w a spec) j refl in
          same ∙ sym (mine.pushes w a spec (subst (λ z. Among (push_by z w a spec) last.there.out.envelopes) same j));
      says = λ u w v a spec f o made i pushed.
          let j = subst (λ ls. Among (envelope (TheWorker w) (TheWorker v) (Hold f o)) ls) envelopes i in
          let same : w ≡ me = mine.own w (envelope (TheWorker w) (TheWorker v) (Hold f o)) j refl in
          mine.says u v a spec f o made (subst (λ z. Among (envelope (TheWorker z) (TheWorker v) (Hold f o)) last.there.out.envelopes) same j)
          (subst (λ z. Among (push_by u z a spec) m.whole.network) same pushed);
      runs = λ w y run is r. by_who w y run (append_split (changed_at c.workers me (λ _. last.worker)) (repeated last.there.opened (new_worker home)) w y
          (ap (λ ws. item_at ws w) (sym workers) ∙ is)) r;
    }
      where
        nobody : (run : Execution) → ◌≡◌ {A = Option Execution} None (Some run) → ⊥
        nobody run i = cc

        by_who : (w : ℕ) (y : Worker) (run : Execution) →
            (item_at (changed_at c.workers me (λ _. last.worker)) w ≡ Some y) ⊎ ((item_at (changed_at c.workers me (λ _. last.worker)) w ≡ None) × ((i : ℕ) × (item_of i (repeated last.there.opened (new_worker home)) w ≡ Some y))) →
            y.run ≡ Some run → RunKeeps next m.whole.network (accepted_events next) w y run
        by_who w y run (inl g) r = elim (changed_cases c.workers me w (λ _. last.worker) y g) [
          | inl (same, _, _, is) ↦
              subst (λ z. RunKeeps next m.whole.network (accepted_events next) z y run) (sym same)
              (subst (λ (z : Worker). RunKeeps next m.whole.network (accepted_events next) me z run) (sym is) (mine.runs run (ap (λ (z : Worker). z.run) (sym is) ∙ r)))
          | inr (apart, was) ↦ stays w y run was r (λ n from l is_it sent_it. apart (to_me n w from l is_it sent_it))
        ]
        by_who w y run (inr (_, (i, g))) r = absurd (nobody run (ap (λ (z : Worker). z.run) (one_of i last.there.opened w (new_worker home) y g) ∙ r))

  -- ---- what a worker says of an attempt that was pushed to it

  -- the pushed attempt was begun on the worker
  pushed_runs : (u me : ℕ) (a : Attempt) (spec : Birth) → Among (push_by u me a spec) m.whole.network → worker_of a next ≡ Some me
  pushed_runs u me a spec i =
      let says : IsPushed next a spec me = all_among (Says (past next b.asked)) m.whole.network (push_by u me a spec) b.knows.told i in
      says.runs

  touched_by : (u me : ℕ) (a : Attempt) (spec : Birth) → Among (push_by u me a spec) m.whole.network → Touched m.whole.network a
  touched_by u me a spec i = inr (me, (u, spec, i))

  -- two attempts of one object that were begun are the same
  pub one_attempt : (u me w : ℕ) (a d : Attempt) (spec : Birth) → Among (push_by u me a spec) m.whole.network → a.object ≡ d.object → worker_of d next ≡ Some w →
      d ≡ a
  one_attempt u me w a d spec i same ran =
      let touched = touched_by u me a spec i in
      let first : a.number ≡ 0 = only_first s next m.whole b asks calm a touched a.number me (pushed_runs u me a spec i) in
      let other : d.number ≡ 0 = only_first s next m.whole b asks calm a touched d.number w (ap (λ (o : Id). worker_of (record { object = o; number = d.number }) next) same ∙ ran) in
      attempt_parts d a (sym same) (other ∙ sym first)

  sane : Sane next
  sane = legal_logs_are_sane (setting_of s m.whole) next b.legal

  pushed_born : (u me : ℕ) (a : Attempt) (spec : Birth) → Among (push_by u me a spec) m.whole.network → birth_at (births next) a.object ≡ Some spec
  pushed_born u me a spec i =
      let says : IsPushed next a spec me = all_among (Says (past next b.asked)) m.whole.network (push_by u me a spec) b.knows.told i in
      says.born

  same_part : (p q : Part) → ◌≡◌ {A = Option Part} (Some p) (Some q) → p ≡ q
  same_part p q f = cc

  same_birth : (p q : Birth) → ◌≡◌ {A = Option Birth} (Some p) (Some q) → p ≡ q
  same_birth p q f = cc

  -- a Hold of an object of its task is said only once it ended, or by a worker that is free
  pub said_in_time : (u me : ℕ) (x y : Worker) (r : Execution) (a : Attempt) (spec : Birth) (f : Id) → IsPartOfTask a spec f → worker_at c me ≡ Some x → x.run ≡ Some r →
      worker_of r.attempt next ≡ Some me → y.began ≡ x.began → Among (push_by u me a spec) m.whole.network → IsHolder next me r.attempt r.base.serial f →
      ((has_begun a y.began ≡ false) → ⊥) → HasEnd next a
  said_in_time u me x y r a spec f made at is ran began i (inl (of, ended)) unbegun =
      let part = sane.grouped.whole a.object f spec (pushed_born u me a spec i) made in
      let other = sane.grouped.whole r.attempt.object f of.0 of.1 of.2 in
      let same : a.object ≡ r.attempt.object = ap (λ (p : Part). p.born.object) (same_part _ _ (sym part ∙ other)) in
      let one : r.attempt ≡ a = one_attempt u me me a r.attempt spec i same ran in
      subst (HasEnd next) one ended
  said_in_time u me x y r a spec f made at is ran began i (inr (owner, above)) unbegun =
      let begun : has_begun a y.began ≡ true = true_from (has_begun a y.began) unbegun in
      let own : a.object.owner ≡ me = made_owner (record { object = a.object; birth = spec }) f made ∙ owner in
      let below = below_more log (In e seat ∷ m.out.entries) a r.base.serial ((k.runs me x r at is).apart a (ap (λ bs. has_begun a bs) (sym began) ∙ begun) own) in
      let same : below.0 ≡ spec = same_birth below.0 spec (sym below.1 ∙ pushed_born u me a spec i) in
      let room : a.object.serial + results_of spec ≤ r.base.serial = subst (λ d. a.object.serial + results_of d ≤ r.base.serial) same below.2 in
      let within = made_below (record { object = a.object; birth = spec }) f made in
      absurd (omega (arith, above, room, within))
    where
      true_from : (t : Bool) → (t ≡ false → ⊥) → t ≡ true
      true_from true f = refl
      true_from false f = absurd (f refl)

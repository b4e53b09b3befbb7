-- As long as nothing was killed or lost, an attempt that ended is reported to its owner once its Holds are acknowledged, by log and network alone.
use Rattle.meaning.specs.Births.{birth_at, is_made_by}
use Rattle.event_log.specs.Words.{births, same_attempt, worker_of}
use Rattle.protocol.specs.Messages.{Finished, Envelope, envelope, TheWorker}
use Rattle.owed_asks.proofs.of_lease_discipline.Events.{among_at}
use Rattle.owed_laws.proofs.HoldMoves.{hold_of, IsHeld, IsOfRun}
use Rattle.std.proofs.Common.{◌≡◌, ℕ, zero, suc, ◌<◌, ◌≤◌, List, [], ◌∷◌, Some, Option, refl, ap, sym, subst, ◌∙◌, inl, inr, arith}
use Rattle.std.specs.Prelude.{true, false, ◌||◌}
use Rattle.std.specs.List.{list_any}
use Rattle.std.proofs.lemmas.Bool.{eqb-true, false_from_ne_true}
use Rattle.meaning.proofs.BirthLaws.{at_test}
use Rattle.meaning.specs.Mains.{KeepsMainApart}
use Rattle.meaning.specs.Values.{Birth}
use Rattle.event_log.specs.Breaks.{Among}
use Rattle.event_log.specs.Entries.{Attempt, Claim, Commit, Deliver, Event, Evict, Join, Kill, KillNode, Lose, Notice, NoticeNode, Tick, main_attempt}
use Rattle.event_log.specs.Events.{accepted_events}
use Rattle.event_log.specs.Rules.{Setting}
use Rattle.event_log.proofs.WordLaws.{same_attempt-true}
use Rattle.protocol.specs.Numbered.{item_at}
use Rattle.protocol.specs.Tables.{Holding, Execution, Worker}
use Rattle.protocol.specs.Cluster.{worker_at}
use Rattle.owed_asks.specs.of_protocol_legal.Past.{past}
use Rattle.owed_asks.specs.of_protocol_legal.Says.{IsPushed, Says}
use Rattle.owed_asks.specs.of_protocol_legal.Whole.{Between}
use Rattle.protocol_owed.specs.Courses.{has_begun}
use Rattle.protocol_owed.specs.Ends.{EndsAreReported, HoldsAreAcknowledged, IsAcknowledged, IsEntryOf, IsHoldOf}
use Rattle.protocol_owed.specs.Runs.{Handing, Running, after_events, opening_run, seen}
use Rattle.protocol_owed.specs.Seen.{IsCalm, delivers}
use Rattle.owed_asks.specs.of_lease_discipline.Discipline.{IsDone}
use Rattle.owed_asks.specs.of_lease_discipline.Slots.{AreRight}
use Rattle.owed_asks.proofs.Laws as A
use Rattle.owed_replies.specs.Kept.{IsReported, KeepsReplies}
use Rattle.owed_replies.specs.Law.{AwaitsAcks}
use Rattle.owed_replies.proofs.Advancing.{all_among}
use Rattle.owed_replies.proofs.Quiet.{all_live}
use Rattle.owed_replies.proofs.Runs.{law_of_ends, run_replies}
use Rattle.owed_laws.proofs.HoldEvents.{KeepsHolds, RunKeeps, push_by}
use Rattle.owed_laws.proofs.HoldFacts.{IsFirst, first_behind, hold_is, is_hold, is_hold_of}
use Rattle.owed_laws.proofs.HoldRuns.{run_holds}

-- a delivery that the log has
deliver_among : (n : ℕ) (es : List Event) → list_any (delivers n) es ≡ true → Among (Deliver n) es
deliver_among n [] e = absurd (cc)
deliver_among n (x ∷ es) e =
    let rest : list_any (delivers n) es ≡ true → Among (Deliver n) es = deliver_among n es in
    at_test (λ t. delivers n x ≡ t → (t || list_any (delivers n) es) ≡ true → Among (Deliver n) (x ∷ es)) (delivers n x)
    (λ _ f _. (zero, ap (λ y. Some y) (is_it x f))) (λ _ _ g. let r = rest g in (suc r.0, r.1)) refl e
  where
    is_it : (y : Event) → delivers n y ≡ true → y ≡ Deliver n
    is_it (Deliver i) f = ap Deliver (eqb-true i n f)
    is_it (Claim w) f = absurd (cc)
    is_it (Commit j) f = absurd (cc)
    is_it (Tick w) f = absurd (cc)
    is_it (Notice w v) f = absurd (cc)
    is_it (NoticeNode w m) f = absurd (cc)
    is_it (Evict m o) f = absurd (cc)
    is_it (Lose m o) f = absurd (cc)
    is_it (Kill w) f = absurd (cc)
    is_it (KillNode m) f = absurd (cc)
    is_it Join f = absurd (cc)

same_number : (m n : ℕ) → ◌≡◌ {A = Option ℕ} (Some m) (Some n) → m ≡ n
same_number m n e = cc

module _ (s : Setting) (r : Running) (keeps : A.RunKeeps s r) (k : KeepsHolds r.log r.whole) (told : KeepsReplies r.log r.whole) (calm : IsCalm r.log) where
  abbrev b : Between s r.log r.whole
  b = keeps.step.sound.between

  -- whoever began an attempt runs it
  runs_it : (v : ℕ) (y : Worker) (a : Attempt) → worker_at r.whole v ≡ Some y → has_begun a y.began ≡ true → (a ≡ main_attempt → ⊥) → worker_of a r.log ≡ Some v
  runs_it v y a at begun other = elim ((keeps.step.leases.workers.each v y at).began a begun) [
    | inl (main, _) ↦ absurd (other main)
    | inr (u, spec, i) ↦
        let says : IsPushed r.log a spec v = all_among (Says (past r.log b.asked)) r.whole.network (push_by u v a spec) b.knows.told i in
        says.runs
  ]

  -- the attempt's own worker reported it
  reported : (a : Attempt) (w : ℕ) → (a ≡ main_attempt → ⊥) → worker_of a r.log ≡ Some w → ((v : ℕ) × IsReported r.whole.network v a) → IsReported r.whole.network w a
  reported a w other ran (v, (n, rs, i)) =
      let done : IsDone (worker_at r.whole) v a =
      keeps.step.leases.workers.envelopes (envelope (TheWorker v) (TheWorker a.object.owner) (Finished a n rs)) i in
      let same : v ≡ w = same_number v w (sym (runs_it v done.worker a done.there done.done.listed other) ∙ ran) in
      subst (λ z. IsReported r.whole.network z a) same (n, rs, i)

  -- a Hold that waits is the attempt's, and isn't acknowledged
  module _ (a : Attempt) (w : ℕ) (x : Worker) (run : Execution) (at : worker_at r.whole w ≡ Some x) (is : x.run ≡ Some run) (present : run.attempt ≡ a)
      (other : same_attempt run.attempt main_attempt ≡ false) (j : Holding) (listed : Among j run.holds) where
    old : RunKeeps r.log r.whole.network (accepted_events r.log) w x run
    old = k.runs w x run at is

    held : IsHeld r.log r.whole.network (accepted_events r.log) w run.attempt old.place j
    held = old.holds.held other j listed

    first : IsFirst (is_hold_of w j.holder j.object) r.whole.network old.place
    first = first_behind (is_hold_of w j.holder j.object) r.whole.network old.place held.sends.0 (hold_of w j) held.sends.2 (is_hold w j.holder j.object) held.sends.1

    there : item_at r.whole.network first.number ≡ Some (hold_of w j)
    there = first.there ∙ ap (λ l. Some l) (hold_is w j.holder j.object first.item first.passes)

    its_hold : IsHoldOf (seen s r) run.attempt w first.number j.holder j.object
    its_hold =
        let q = old.pushed other in
        record {
          spec = q.0;
          push = old.place;
          pushed = record { there = q.1; earlier = λ i less envelope. q.2 i q.0 less envelope };
          entry = entry q.0 (pushed_born q.0 old.place q.1) held.entry;
          born = (told.runs w x run at is).holds j listed;
          held = record {
            there = there;
            behind = first.behind;
            between = λ i far less envelope. first.between i (hold_of w j) far less envelope (is_hold w j.holder j.object);
          };
        }
      where
        same_birth : (p q : Birth) → ◌≡◌ {A = Option Birth} (Some p) (Some q) → p ≡ q
        same_birth p q f = cc

        pushed_born : (spec : Birth) (i : ℕ) → item_at r.whole.network i ≡ Some (push_by run.attempt.object.owner w run.attempt spec) →
            birth_at (births r.log) run.attempt.object ≡ Some spec
        pushed_born spec i at_i =
            let l : Envelope = push_by run.attempt.object.owner w run.attempt spec in
            let says : IsPushed r.log run.attempt spec w = all_among (Says (past r.log b.asked)) r.whole.network l b.knows.told (among_at r.whole.network i l at_i) in
            says.born

        entry : (spec : Birth) → birth_at (births r.log) run.attempt.object ≡ Some spec → IsOfRun r.log run.attempt j.holder →
            IsEntryOf (seen s r) run.attempt spec j.holder
        entry spec born (inl (other, of, made)) =
            inl (subst (λ d. is_made_by (record { object = run.attempt.object; birth = d }) j.holder ≡ true) (same_birth other spec (sym of ∙ born)) made)
        entry spec born (inr of) = inr of

    unacknowledged : IsAcknowledged (seen s r) w first.number j.holder j.object → ⊥
    unacknowledged ack =
        let below = held.unheard ack.number first.number (deliver_among ack.number (accepted_events r.log) ack.came) ack.sent first.behind there in
        let above = ack.since in
        omega (arith, below, above)

    never_all : HoldsAreAcknowledged (seen s r) a w → ⊥
    never_all all = unacknowledged (all first.number j.holder j.object (subst (λ d. IsHoldOf (seen s r) d w first.number j.holder j.object) present its_hold))

  waits_for_none : (a : Attempt) (w : ℕ) → (a ≡ main_attempt → ⊥) → worker_of a r.log ≡ Some w → HoldsAreAcknowledged (seen s r) a w → AwaitsAcks r.whole a → ⊥
  waits_for_none a w other ran all g = by_holds g.run.holds refl
    where
      live : g.worker.is_live ≡ true
      live = all_live s r.log r.whole b calm g.number g.worker g.there

      ran_here : worker_of a r.log ≡ Some g.number
      ran_here = ap (λ d. worker_of d r.log) (sym g.present) ∙ ((b.knows.workers g.number g.worker g.there live).run g.run g.at).runs

      same : w ≡ g.number
      same = same_number w g.number (sym ran ∙ ran_here)

      not_main : same_attempt g.run.attempt main_attempt ≡ false
      not_main = false_from_ne_true (same_attempt g.run.attempt main_attempt) (λ t. other (sym g.present ∙ same_attempt-true g.run.attempt main_attempt t))

      by_holds : (ks : List Holding) → g.run.holds ≡ ks → ⊥
      by_holds [] none = g.waits none
      by_holds (j ∷ ks) is =
          never_all a g.number g.worker g.run g.there g.at g.present not_main j (subst (λ js. Among j js) (sym is) (zero, refl))
          (subst (λ z. HoldsAreAcknowledged (seen s r) a z) same all)

pub ends_are_reported : (s : Setting) (slots : ℕ) → 0 < s.nodes → 1 ≤ slots → KeepsMainApart s.script → (gs : List Handing) → AreRight s (opening_run s.nodes slots) gs →
    IsCalm (after_events (opening_run s.nodes slots) gs).log → EndsAreReported (seen s (after_events (opening_run s.nodes slots) gs))
ends_are_reported s slots some slot apart gs right calm a c w ended other ran all =
    let r : Running = after_events (opening_run s.nodes slots) gs in
    let keeps : A.RunKeeps s r = A.runs_keep s slots some slot apart gs right in
    let k : KeepsHolds r.log r.whole = run_holds s slots some slot apart gs right calm in
    let told : KeepsReplies r.log r.whole = (run_replies s slots some apart gs right).replies in
    elim (law_of_ends s slots some apart gs right calm a c ended (false_from_ne_true (same_attempt a main_attempt) (λ t. other (same_attempt-true a main_attempt t)))) [
      | inl word ↦ reported s r keeps k told calm a w other ran word
      | inr waits ↦ absurd (waits_for_none s r keeps k told calm a w other ran all waits)
    ]

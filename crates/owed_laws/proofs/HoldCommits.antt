-- A commit keeps what is true of the Holds of its attempt: each that it sends names, for an object that it bore or for its own as it ends, what no
-- Hold behind the attempt's Push named before.
use Rattle.std.proofs.Common.{[], ap, append_assoc, arith, inl, inr, length, length-append, List, None, Option, refl, Some, subst, suc, sym, zero, ℕ, ◌++◌, ◌+◌}
use Rattle.std.proofs.Common.{◌<◌, ◌∙◌, ◌∷◌, ◌≡◌, ◌≤◌, ◌⊎◌}
use Rattle.std.specs.Prelude.{Bool, true, false, if◌then◌else◌}
use Rattle.std.proofs.lemmas.Bool.{both_ways}
use Rattle.meaning.proofs.BirthLaws.{at_test, is_made, made_below, made_owner, same_id-refl}
use Rattle.meaning.specs.Births.{birth_at, is_made_by, same_id}
use Rattle.meaning.specs.Runs.{Stop}
use Rattle.meaning.specs.Values.{Birth, Id, Outcome, Put, results_of, Task, Val, Value}
use Rattle.values.specs.Listed.{each_once, ids_in_outcome, without}
use Rattle.event_log.specs.Commits.{commit_entries}
use Rattle.event_log.specs.Breaks.{Among}
use Rattle.event_log.specs.Entries.{Attempt, Born, Deliver, Ended, Entry, Event, main_attempt}
use Rattle.event_log.specs.Holding.{ids_of_birth}
use Rattle.event_log.specs.Words.{births, same_attempt}
use Rattle.step_laws.proofs.Lists.{changed-length}
use Rattle.protocol.specs.Commits.{bears, bears_all, commit_by, commit_step, next_id_here, stops, stops_by, each_holds, keeps_contents, task_objects, with_objects, with_outcomes}
use Rattle.protocol.specs.Holders.{adds_holder, awaits_hold_by, holding, holds_id, holds_ids, passes_on, sends_hold, with_holding}
use Rattle.protocol.specs.Jobs.{AtEnd, AtGet, Outcomes, Stopped, stop_of}
use Rattle.protocol.specs.Messages.{Hold, Envelope, Message, TheNode, TheWorker, envelope}
use Rattle.protocol.specs.Nodes.{NodeContext}
use Rattle.protocol.specs.Numbered.{item_at}
use Rattle.protocol.specs.Runs.{leaves_if_free}
use Rattle.protocol.specs.Steps.{each_from, WorkerContext, is_own, logs_all, own_id, says, says_to_node, store_here, with_phase, with_run, with_store, with_worker}
use Rattle.protocol.specs.Stores.{with_ended, with_primary}
use Rattle.protocol.specs.Tables.{HasEnded, Holding, Object, Execution, Waits, knows_dead, new_task, put_object}
use Rattle.protocol_owed.proofs.Owing.{bears-same, next_birth}
use Rattle.protocol.specs.Sets.{object_id}
use Rattle.owed_laws.proofs.HoldMoves.{ack_of, held_more, hold_of, IsHeld, IsHolder, IsOfRun, item_cases, item_last, RunHolds}
use Rattle.owed_laws.proofs.HoldMoves as H
use Rattle.owed_replies.proofs.Committing.{held_among}
use Rattle.owed_replies.proofs.Moves.{needs-kept}

-- ---- no id twice

abbrev AreOnce : List Id → Type 0
AreOnce [] = Unit {0}
AreOnce (o ∷ os) = (Among o os → ⊥) × AreOnce os

without_among : (o p : Id) (os : List Id) → Among p (without o os) → Among p os
without_among o p [] i = i
without_among o p (q ∷ os) i =
    let rest : Among p (without o os) → Among p os = without_among o p os in
    at_test (λ t. Among p (if t then without o os else q ∷ without o os) → Among p (q ∷ os)) (same_id q o)
    (λ _ j. let r = rest j in (suc r.0, r.1)) (λ _ j. kept rest j) i
  where
    kept : (Among p (without o os) → Among p os) → Among p (q ∷ without o os) → Among p (q ∷ os)
    kept rest (zero, e) = (zero, e)
    kept rest (suc k, e) = let r = rest (k, e) in (suc r.0, r.1)

not_within : (o : Id) (os : List Id) → Among o (without o os) → ⊥
not_within o [] i = let e = i.1 in cc
not_within o (q ∷ os) i =
    let rest : Among o (without o os) → ⊥ = not_within o os in
    at_test (λ t. same_id q o ≡ t → Among o (if t then without o os else q ∷ without o os) → ⊥) (same_id q o)
    (λ _ _ j. rest j) (λ _ other j. kept rest other j) refl i
  where
    kept : (Among o (without o os) → ⊥) → same_id q o ≡ false → Among o (q ∷ without o os) → ⊥
    kept rest other (zero, e) = let same : q ≡ o = cc in both_ways (same_id q o) other (subst (λ z. same_id z o ≡ true) (sym same) (same_id-refl o))
    kept rest other (suc k, e) = rest (k, e)

without_once : (o : Id) (os : List Id) → AreOnce os → AreOnce (without o os)
without_once o [] once = once
without_once o (q ∷ os) once =
    let rest : AreOnce (without o os) = without_once o os once.1 in
    at_test (λ t. AreOnce (if t then without o os else q ∷ without o os)) (same_id q o)
    (λ _. rest) (λ _. (λ i. once.0 (without_among o q os i), rest))

are_once : (os : List Id) → AreOnce (each_once os)
are_once [] = tt
are_once (o ∷ os) = (not_within o (each_once os), without_once o (each_once os) (are_once os))

-- a Hold of the worker
abbrev hold_by : ℕ → ℕ → Id → Id → Envelope
hold_by w v e o = envelope (TheWorker w) (TheWorker v) (Hold e o)

hold_parts : (w v u : ℕ) (e f o q : Id) → ◌≡◌ {A = Option Envelope} (Some (hold_by w v e o)) (Some (hold_by w u f q)) → (e ≡ f) × (o ≡ q)
hold_parts w v u e f o q h =
    let l : hold_by w v e o ≡ hold_by w u f q = cc in
    let m : Hold e o ≡ Hold f q = ap (λ (x : Envelope). x.message) l in
    (cc, cc)

hold_said : (w v u : ℕ) (e f o q : Id) → Among (hold_by w v e o) (hold_by w u f q ∷ []) → (e ≡ f) × (o ≡ q)
hold_said w v u e f o q (zero, h) = hold_parts w v u e f o q (sym h)
hold_said w v u e f o q (suc k, h) = absurd (cc)

module _ (log : List Entry) (net : List Envelope) (acks : List Event) (known : (n : ℕ) → Among (Deliver n) acks → n < length net + 1)
    (me p : ℕ) (began : List Attempt) (a : Attempt) (base : ℕ) (Present : Type 0) (present : Present) (behind : p < length net + 1)
    (spec : Birth) (spec_born : birth_at (births log) a.object ≡ Some spec) (apart : a.object.owner ≡ me → a.object.serial + results_of spec ≤ base) where
  abbrev Q : WorkerContext → Type 0
  Q = H.Holds log net acks known me p began a base Present

  abbrev sent_by : NodeContext → List Envelope
  sent_by t = net ++ t.out.envelopes

  abbrev IsEntry : Id → Type 0
  IsEntry e = IsOfRun log a e

  -- an object of the attempt's own task
  abbrev IsMine : Id → Type 0
  IsMine e = is_made_by (record { object = a.object; birth = spec }) e ≡ true

  -- no Hold of that holder and that object was sent behind that place
  abbrev IsUnsaid : WorkerContext → Id → Id → Type 0
  IsUnsaid h e o = (i v : ℕ) → p < i → item_at (sent_by h.there) i ≡ Some (hold_by me v e o) → ⊥

  abbrev IsOther : Type 0
  IsOther = same_attempt a main_attempt ≡ false

  -- between two Holds of the same holder
  record Sends (before : WorkerContext) (e : Id) (h : WorkerContext) : Type 0 where
    holds : Q h
    going : (run : Execution) → h.worker.run ≡ Some run → run.is_over ≡ false
    count : length h.worker.objects ≡ length before.worker.objects
    since : (i v : ℕ) (f o : Id) → item_at (sent_by h.there) i ≡ Some (hold_by me v f o) → (item_at (sent_by before.there) i ≡ Some (hold_by me v f o)) ⊎ (f ≡ e)

  some_run : (x y : Execution) → ◌≡◌ {A = Option Execution} (Some x) (Some y) → x ≡ y
  some_run x y e = cc

  -- one Hold
  module _ (before : WorkerContext) (e : Id) (holder : IsHolder log me a base e) (entry : IsEntry e) where
    abbrev said_so : WorkerContext → Id → Envelope
    said_so h o = hold_by h.me o.owner e o

    grown : (h : WorkerContext) (o : Id) → net ++ (h.there.out.envelopes ++ said_so h o ∷ []) ≡ sent_by h.there ++ said_so h o ∷ []
    grown h o = sym (append_assoc net h.there.out.envelopes (said_so h o ∷ []))

    known_here : (h : WorkerContext) (n : ℕ) → Among (Deliver n) acks → n < length (sent_by h.there) + 1
    known_here h n i = let f = known n i in let g = length-append net h.there.out.envelopes in omega (arith, f, g)

    behind_here : (h : WorkerContext) → p < length (sent_by h.there) + 1
    behind_here h = let g = length-append net h.there.out.envelopes in omega (arith, behind, g)

    -- the envelopes of after it
    since_more : (h : WorkerContext) (o : Id) → h.me ≡ me → Sends before e h → (i v : ℕ) (f q : Id) →
        item_at (net ++ (h.there.out.envelopes ++ said_so h o ∷ [])) i ≡ Some (hold_by me v f q) →
        (item_at (sent_by before.there) i ≡ Some (hold_by me v f q)) ⊎ (f ≡ e)
    since_more h o who s i v f q at = elim (item_cases (sent_by h.there) (said_so h o ∷ []) i (hold_by me v f q) (ap (λ ls. item_at ls i) (sym (grown h o)) ∙ at)) [
      | inl old ↦ s.since i v f q old
      | inr new ↦ inr (hold_said me v o.owner f e q o (subst (λ w. Among (hold_by me v f q) (hold_by w o.owner e o ∷ [])) who new.1)).0
    ]

    one_held : (h : WorkerContext) (o : Id) → h.me ≡ me → (IsOther → IsUnsaid h e o) → IsOther → IsHeld log (sent_by h.there ++ said_so h o ∷ []) acks me a p (holding e o)
    one_held h o who clear other = record {
      entry = entry;
      sends = (
        length (sent_by h.there) + 1,
        behind_here h,
        subst (λ w. item_at (sent_by h.there ++ said_so h o ∷ []) (length (sent_by h.there) + 1) ≡ Some (hold_by w o.owner e o)) who
            (item_last (sent_by h.there) (said_so h o)),
      );
      unheard = λ n i came ack far hold. elim (item_cases (sent_by h.there) (said_so h o ∷ []) i (hold_of me (holding e o)) hold) [
        | inl old ↦ absurd (clear other i o.owner far old)
        | inr new ↦ let below = known_here h n came in let above = new.0 in omega (arith, below, above)
      ];
    }

    next_right : (h : WorkerContext) (o : Id) (run : Execution) → h.worker.run ≡ Some run → (IsOther → IsUnsaid h e o) → Sends before e h →
        RunHolds log (sent_by h.there ++ said_so h o ∷ []) acks me p (record run { holds = with_holding run.holds (holding e o) })
    next_right h o run at clear s =
        let r = s.holds.run run at in
        let is = s.holds.same run at in
        record {
          over = λ over. absurd (both_ways run.is_over (s.going run at) over);
          each = λ k i. elim (held_among run.holds (holding e o) k i) [
            | inl old ↦ r.each k old
            | inr new ↦
                subst (λ (j : Holding). IsHolder log me run.attempt run.base.serial j.holder) (sym new)
                (subst (λ n. IsHolder log me run.attempt n e) (sym is.1) (subst (λ b. IsHolder log me b base e) (sym is.0) holder))
          ];
          held = λ other k i. elim (held_among run.holds (holding e o) k i) [
            | inl old ↦ held_more log (sent_by h.there) (said_so h o ∷ []) acks me run.attempt p k (known_here h) (r.held other k old)
            | inr new ↦
                subst (λ (j : Holding). IsHeld log (sent_by h.there ++ said_so h o ∷ []) acks me run.attempt p j) (sym new)
                (subst (λ b. IsHeld log (sent_by h.there ++ said_so h o ∷ []) acks me b p (holding e o)) (sym is.0)
                (one_held h o s.holds.who clear (subst (λ b. same_attempt b main_attempt ≡ false) is.0 other)))
          ];
        }

    sends_one : (h : WorkerContext) (o : Id) → (IsOther → IsUnsaid h e o) → Sends before e h → Sends before e (sends_hold h e o)
    sends_one h o clear s = by_run h.worker.run refl
      where
        said_now : (v : ℕ) (f q : Id) → Among (hold_by me v f q) (h.there.out.envelopes ++ said_so h o ∷ []) → IsHolder log me a base f × Present
        said_now v f q i = H.said_cases log net acks known me p began a base Present h (said_so h o) (λ u g r same.
            (subst (IsHolder log me a base) (sym (hold_parts me u o.owner g e r o (ap (λ x. Some x) same ∙ ap (λ w. Some (hold_by w o.owner e o)) s.holds.who)).0) holder, present))
            s.holds v f q i

        by_run : (r : Option Execution) → h.worker.run ≡ r → Sends before e (says (awaits_hold_by h (holding e o) r) o.owner (Hold e o))
        by_run None at = record {
          holds = record {
            who = s.holds.who;
            kept_began = s.holds.kept_began;
            same = s.holds.same;
            run = λ run i. absurd (nobody run (sym at ∙ i));
            said = said_now;
          };
          going = s.going;
          count = s.count;
          since = since_more h o s.holds.who s;
        }
          where
            nobody : (run : Execution) → ◌≡◌ {A = Option Execution} None (Some run) → ⊥
            nobody run i = cc
        by_run (Some run) at =
            let next : Execution = record run { holds = with_holding run.holds (holding e o) } in
            record {
              holds = record {
                who = s.holds.who;
                kept_began = s.holds.kept_began;
                same = λ x i. subst (λ (y : Execution). (y.attempt ≡ a) × (y.base.serial ≡ base) × Present) (some_run next x i) (s.holds.same run at);
                run = λ x i. subst (RunHolds log (net ++ (h.there.out.envelopes ++ said_so h o ∷ [])) acks me p) (some_run next x i)
                    (subst (λ ls. RunHolds log ls acks me p next) (sym (grown h o)) (next_right h o run at clear s));
                said = said_now;
              };
              going = λ x i. subst (λ (y : Execution). y.is_over ≡ false) (some_run next x i) (s.going run at);
              count = s.count;
              since = since_more h o s.holds.who s;
            }

    -- an own object changes
    own_changes : (h : WorkerContext) (ys : List Object) → length ys ≡ length h.worker.objects → Sends before e h → Sends before e (with_worker h (record h.worker { objects = ys }))
    own_changes h ys same s = record {
      holds = record { who = s.holds.who; kept_began = s.holds.kept_began; same = s.holds.same; run = s.holds.run; said = s.holds.said };
      going = s.going;
      count = same ∙ s.count;
      since = s.since;
    }

    either : (b : Bool) (x y : WorkerContext) → Sends before e x → Sends before e y → Sends before e (if b then x else y)
    either true x y s t = s
    either false x y s t = t

    adds_one : (h : WorkerContext) (o : Id) → Sends before e h → Sends before e (adds_holder h e o)
    adds_one h o s =
        let g = own_changes h _ (changed-length h.worker.objects o.serial _) s in
        either (knows_dead h.worker e.owner) _ _ (own_changes _ _ (changed-length _ o.serial _) g) g

    one_id : (h : WorkerContext) (o : Id) → (IsOther → IsUnsaid h e o) → Sends before e h → Sends before e (holds_id h e o)
    one_id h o clear s = either (is_own h o) _ _ (adds_one h o s) (either (knows_dead h.worker o.owner) h (sends_hold h e o) s (sends_one h o clear s))

    -- of another object nothing more is said
    still_unsaid : (h : WorkerContext) (o q : Id) → h.me ≡ me → (o ≡ q → ⊥) → IsUnsaid h e q → IsUnsaid (holds_id h e o) e q
    still_unsaid h o q who other clear = pick (is_own h o) (adds_holder h e o) (if knows_dead h.worker o.owner then h else sends_hold h e o)
        (pick (knows_dead h.worker e.owner) _ _ clear clear) (pick (knows_dead h.worker o.owner) h (sends_hold h e o) clear said_one)
      where
        pick : (b : Bool) (x y : WorkerContext) → IsUnsaid x e q → IsUnsaid y e q → IsUnsaid (if b then x else y) e q
        pick true x y s t = s
        pick false x y s t = t

        by_envelopes : (i v : ℕ) → p < i → item_at (net ++ (h.there.out.envelopes ++ said_so h o ∷ [])) i ≡ Some (hold_by me v e q) → ⊥
        by_envelopes i v far at = elim (item_cases (sent_by h.there) (said_so h o ∷ []) i (hold_by me v e q) (ap (λ ls. item_at ls i) (sym (grown h o)) ∙ at)) [
          | inl old ↦ clear i v far old
          | inr new ↦ other (sym (hold_said me v o.owner e e q o (subst (λ w. Among (hold_by me v e q) (hold_by w o.owner e o ∷ [])) who new.1)).1)
        ]

        said_one : IsUnsaid (sends_hold h e o) e q
        said_one = by_run h.worker.run
          where
            by_run : (r : Option Execution) → IsUnsaid (says (awaits_hold_by h (holding e o) r) o.owner (Hold e o)) e q
            by_run None i v far at = by_envelopes i v far at
            by_run (Some run) i v far at = by_envelopes i v far at

    sends_all : (h : WorkerContext) (os : List Id) → AreOnce os → ((o : Id) → Among o os → IsOther → IsUnsaid h e o) → Sends before e h → Sends before e (holds_ids h e os)
    sends_all h [] once clear s = s
    sends_all h (o ∷ os) once clear s = sends_all (holds_id h e o) os once.1
        (λ q i other. still_unsaid h o q s.holds.who (λ same. once.0 (subst (λ z. Among z os) (sym same) i)) (clear q (suc i.0, i.1) other))
        (one_id h o (clear o (zero, refl)) s)

  -- ---- births

  -- before each
  pub record Going (h : WorkerContext) : Type 0 where
    pub holds : Q h
    pub going : (run : Execution) → h.worker.run ≡ Some run → run.is_over ≡ false
    pub room : base ≤ length h.worker.objects + 1
    pub young : (i v : ℕ) (e o : Id) → item_at (sent_by h.there) i ≡ Some (hold_by me v e o) → e.owner ≡ me → e.serial < length h.worker.objects + 1
    pub unsaid : IsOther → (e : Id) → IsMine e → (o : Id) → IsUnsaid h e o

  starts : (g : WorkerContext) (e : Id) → Q g → ((run : Execution) → g.worker.run ≡ Some run → run.is_over ≡ false) → Sends g e g
  starts g e q going = record { holds = q; going = going; count = refl; since = λ i v f o at. inl at }

  -- the Holds of so many objects that follow one another were sent
  record Went (before : WorkerContext) (w from k : ℕ) (h : WorkerContext) : Type 0 where
    holds : Q h
    going : (run : Execution) → h.worker.run ≡ Some run → run.is_over ≡ false
    since : (i v : ℕ) (f o : Id) → item_at (sent_by h.there) i ≡ Some (hold_by me v f o) →
        (item_at (sent_by before.there) i ≡ Some (hold_by me v f o)) ⊎ ((f.owner ≡ w) × (from ≤ f.serial) × (f.serial < from + k))

  went_none : (g : WorkerContext) (w from : ℕ) → Q g → ((run : Execution) → g.worker.run ≡ Some run → run.is_over ≡ false) → Went g w from 0 g
  went_none g w from q going = record { holds = q; going = going; since = λ i v f o at. inl at }

  -- the next object holds what it names
  went_on : (before : WorkerContext) (w from k : ℕ) (h : WorkerContext) (ids : List Id) → AreOnce ids → Went before w from k h → IsHolder log me a base (object_id w (from + k)) →
      IsEntry (object_id w (from + k)) → (IsOther → (o : Id) → IsUnsaid before (object_id w (from + k)) o) →
      Went before w from (suc k) (holds_ids h (object_id w (from + k)) ids)
  went_on before w from k h ids once x holder entry clear =
      let e : Id = object_id w (from + k) in
      let s : Sends h e (holds_ids h e ids) = sends_all h e holder entry h ids once (λ o i other. unsaid_yet o other) (starts h e x.holds x.going) in
      record {
        holds = s.holds;
        going = s.going;
        since = λ i v f o at. elim (s.since i v f o at) [
          | inl old ↦ elim (x.since i v f o old) [
            | inl was ↦ inl was
            | inr (owner, low, high) ↦ inr (owner, low, omega (arith, high))
          ]
          | inr new ↦
              let serial : f.serial ≡ from + k = ap (λ (z : Id). z.serial) new in
              inr (ap (λ (z : Id). z.owner) new, omega (arith, serial), omega (arith, serial))
        ];
      }
    where
      unsaid_yet : (o : Id) → IsOther → IsUnsaid h (object_id w (from + k)) o
      unsaid_yet o other i v far at = elim (x.since i v (object_id w (from + k)) o at) [
        | inl old ↦ clear other o i v far old
        | inr (owner, low, high) ↦ omega (arith, high)
      ]

  -- so each of them
  went_each : (count : ℕ) (before : WorkerContext) (w from k : ℕ) (h : WorkerContext) (ids : List Id) → AreOnce ids → h.me ≡ w → Went before w from k h →
      ((j : ℕ) → j < k + count → IsHolder log me a base (object_id w (from + j))) → ((j : ℕ) → j < k + count → IsEntry (object_id w (from + j))) →
      ((j : ℕ) → j < k + count → IsOther → (o : Id) → IsUnsaid before (object_id w (from + j)) o) →
      Went before w from (k + count) (each_from (λ g i. holds_ids g (own_id g i) ids) h (from + k) count)
  went_each zero before w from k h ids once is x holder entry clear = subst (λ n. Went before w from n h) (no_more k) x
    where
      no_more : (m : ℕ) → m ≡ m + 0
      no_more m = omega arith
  went_each (suc count) before w from k h ids once is x holder entry clear =
      let g : WorkerContext = holds_ids h (own_id h (from + k)) ids in
      let now : Went before w from (suc k) g = subst (λ v. Went before w from (suc k) (holds_ids h (object_id v (from + k)) ids)) (sym is)
      (went_on before w from k h ids once x (holder k (omega arith)) (entry k (omega arith)) (clear k (omega arith))) in
      subst (λ n. Went before w from n (each_from (λ y i. holds_ids y (own_id y i) ids) g ((from + k) + 1) count)) (sym (one_more k count))
      (subst (λ n. Went before w from (suc k + count) (each_from (λ y i. holds_ids y (own_id y i) ids) g n count)) (next_one from k)
      (went_each count before w from (suc k) g ids once (now.holds.who ∙ sym here_me) now (λ j low. holder j (omega (arith, low))) (λ j low. entry j (omega (arith, low)))
      (λ j low. clear j (omega (arith, low)))))
    where
      here_me : w ≡ me
      here_me = sym is ∙ x.holds.who

      one_more : (m n : ℕ) → m + suc n ≡ suc m + n
      one_more m n = omega arith

      next_one : (m n : ℕ) → m + suc n ≡ (m + n) + 1
      next_one m n = omega arith

  -- the new objects hold what they name
  after_birth : (h g f : WorkerContext) (count : ℕ) → Going h → sent_by g.there ≡ sent_by h.there → length f.worker.objects ≡ length h.worker.objects + count →
      Went g me (length h.worker.objects + 1) count f → Going f
  after_birth h g f count x same number s = record {
    holds = s.holds;
    going = s.going;
    room = let room = x.room in omega (arith, room, number);
    young = λ i v e o at own. elim (s.since i v e o at) [
      | inl old ↦ let below = x.young i v e o (ap (λ ls. item_at ls i) (sym same) ∙ old) own in omega (arith, below, number)
      | inr (owner, low, high) ↦ omega (arith, high, number)
    ];
    unsaid = λ other e mine o i v far at. elim (s.since i v e o at) [
      | inl old ↦ x.unsaid other e mine o i v far (ap (λ ls. item_at ls i) (sym same) ∙ old)
      | inr (owner, low, high) ↦
          let own : a.object.owner ≡ me = made_owner (record { object = a.object; birth = spec }) e mine ∙ owner in
          let below = apart own in
          let within = made_below (record { object = a.object; birth = spec }) e mine in
          let room = x.room in
          omega (arith, below, within, low, room)
    ];
  }

  same_objects : (h : WorkerContext) (ys : List Object) → Q h → Q (with_worker h (record h.worker { objects = ys }))
  same_objects h ys q = record { who = q.who; kept_began = q.kept_began; same = q.same; run = q.run; said = q.said }

  not_to_node : (w v n i : ℕ) (e o : Id) (m : Message) (ls : List Envelope) → item_at (ls ++ envelope (TheWorker w) (TheNode n) m ∷ []) i ≡ Some (hold_by me v e o) →
      item_at ls i ≡ Some (hold_by me v e o)
  not_to_node w v n i e o m ls at = elim (item_cases ls (envelope (TheWorker w) (TheNode n) m ∷ []) i (hold_by me v e o) at) [
    | inl old ↦ old
    | inr new ↦ absurd (to_node new.1)
  ]
    where
      to_node : Among (hold_by me v e o) (envelope (TheWorker w) (TheNode n) m ∷ []) → ⊥
      to_node (zero, h) =
          let l : envelope (TheWorker w) (TheNode n) m ≡ hold_by me v e o = cc in
          let f : TheNode n ≡ TheWorker v = ap (λ (x : Envelope). x.receiver) l in
          absurd (cc)
      to_node (suc k, h) = absurd (cc)

  -- an own task is asked for
  went_asks : (before : WorkerContext) (w from k : ℕ) (h : WorkerContext) (n : ℕ) (ys : List Object) (m : Message) → Went before w from k h →
      Went before w from k (says_to_node (with_worker h (record h.worker { objects = ys })) n m)
  went_asks before w from k h n ys m x =
      let g : WorkerContext = with_worker h (record h.worker { objects = ys }) in
      record {
        holds = H.says_to_node_holds log net acks known me p began a base Present g n m (same_objects h ys x.holds);
        going = x.going;
        since = λ i v f o at. x.since i v f o
            (not_to_node h.me v n i f o m (sent_by h.there) (ap (λ ls. item_at ls i) (append_assoc net h.there.out.envelopes (envelope (TheWorker h.me) (TheNode n) m ∷ [])) ∙ at));
      }

  bears_going : (h : WorkerContext) (b : Birth) → Among (Born (next_id_here h) a b) log → Going h → Going (bears h a b)
  bears_going h b born x = by_birth b born (bears-same h a b).objects
    where
      n : ℕ
      n = length h.worker.objects + 1

      holder : (k : ℕ) → IsHolder log me a base (object_id me (n + k))
      holder k = let room = x.room in inr (refl, omega (arith, room))

      entry : (d : Birth) → Among (Born (next_id_here h) a d) log → (k : ℕ) → k < results_of d → IsEntry (object_id me (n + k))
      entry d i k low = inr (next_id_here h, d, i, is_made (record { object = next_id_here h; birth = d }) (object_id me (n + k)) x.holds.who (omega arith) (omega (arith, low)))

      clear : (k : ℕ) → IsOther → (o : Id) → IsUnsaid h (object_id me (n + k)) o
      clear k other o i v far at = let below = x.young i v (object_id me (n + k)) o at refl in omega (arith, below)

      first_is : object_id me (n + 0) ≡ next_id_here h
      first_is = ap (object_id me) (no_more n) ∙ ap (λ w. object_id w n) (sym x.holds.who)
        where
          no_more : (m : ℕ) → m + 0 ≡ m
          no_more m = omega arith

      by_birth : (d : Birth) → Among (Born (next_id_here h) a d) log → length (bears h a d).worker.objects ≡ length h.worker.objects + results_of d → Going (bears h a d)
      by_birth (Put v) i count =
          let ids : List Id = each_once (ids_of_birth (Put v)) in
          let g : WorkerContext = with_store (with_objects h (put_object a ids h.worker.node ∷ [])) (with_primary (store_here h) (next_id_here h) 0 (Val v)) in
          let q : Q g = record { who = x.holds.who; kept_began = x.holds.kept_began; same = x.holds.same; run = x.holds.run; said = x.holds.said } in
          let went : Went g me n 1 (holds_ids g (object_id me (n + 0)) ids) =
          went_on g me n 0 g ids (are_once (ids_of_birth (Put v))) (went_none g me n q x.going) (holder 0) (entry (Put v) i 0 (omega arith)) (clear 0) in
          after_birth h g (bears h a (Put v)) 1 x refl count (subst (λ e. Went g me n 1 (holds_ids g e ids)) first_is went)
      by_birth (Task name args depth retries others) i count =
          let d : Birth = Task name args depth retries others in
          let o : Id = next_id_here h in
          let ids : List Id = each_once (ids_of_birth d) in
          let g : WorkerContext = with_objects h (task_objects a o.serial d others ids) in
          let q : Q g = record { who = x.holds.who; kept_began = x.holds.kept_began; same = x.holds.same; run = x.holds.run; said = x.holds.said } in
          let f : WorkerContext = each_holds g o (new_task d) ids in
          let held : Went g me n (0 + suc others) (each_from (λ y k. holds_ids y (own_id y k) ids) g (n + 0) (suc others)) =
          went_each (suc others) g me n 0 g ids (are_once (ids_of_birth d)) x.holds.who (went_none g me n q x.going) (λ k _. holder k) (λ k low. entry d i k (omega (arith, low))) (λ k _. clear k) in
          let there : Went g me n (suc others) f =
          subst (λ k. Went g me n k f) (none_before (suc others))
          (subst (λ k. Went g me n (0 + suc others) (each_from (λ y j. holds_ids y (own_id y j) ids) g k (suc others))) (no_more n) held) in
          after_birth h g (bears h a d) (suc others) x refl count (went_asks g me n (suc others) f f.worker.node _ _ there)
        where
          no_more : (m : ℕ) → m + 0 ≡ m
          no_more m = omega arith

          none_before : (m : ℕ) → 0 + m ≡ m
          none_before m = omega arith

  bears_all_going : (bs : List Birth) (h : WorkerContext) (vs : List Value) (stop : Stop) → ((x : Entry) → Among x (commit_entries a (next_id_here h) bs vs stop) → Among x log) →
      Going h → Going (bears_all h a bs)
  bears_all_going [] h vs stop logged x = x
  bears_all_going (b ∷ bs) h vs stop logged x =
      bears_all_going bs (bears h a b) vs stop
      (λ y i. let j = subst (λ n. Among y (commit_entries a n bs vs stop)) (next_birth h a b) i in logged y (suc j.0, j.1))
      (bears_going h b (logged (Born (next_id_here h) a b) (zero, refl)) x)

  -- ---- the stop

  -- each content's object holds what is in it
  contents_hold : (rest : List Outcome) (before : WorkerContext) (k : ℕ) (h : WorkerContext) (number : ℕ) → Went before a.object.owner a.object.serial k h →
      ((j : ℕ) → j < k + length rest → IsHolder log me a base (object_id a.object.owner (a.object.serial + j))) →
      ((j : ℕ) → j < k + length rest → IsEntry (object_id a.object.owner (a.object.serial + j))) →
      ((j : ℕ) → j < k + length rest → IsOther → (o : Id) → IsUnsaid before (object_id a.object.owner (a.object.serial + j)) o) →
      Q (keeps_contents h (object_id a.object.owner (a.object.serial + k)) number rest)
  contents_hold [] before k h number x holder entry clear = x.holds
  contents_hold (c ∷ rest) before k h number x holder entry clear =
      let e : Id = object_id a.object.owner (a.object.serial + k) in
      let ids : List Id = each_once (ids_in_outcome c) in
      let g : WorkerContext = passes_on (with_store h (with_ended (store_here h) e number c)) e ids in
      let q : Q g = record { who = x.holds.who; kept_began = x.holds.kept_began; same = x.holds.same; run = x.holds.run; said = x.holds.said } in
      let here_too : Went before a.object.owner a.object.serial k g = record { holds = q; going = x.going; since = x.since } in
      let now = went_on before a.object.owner a.object.serial k g ids (are_once (ids_in_outcome c)) here_too (holder k (omega arith)) (entry k (omega arith)) (clear k (omega arith)) in
      subst (λ m. Q (keeps_contents (holds_ids g e ids) (object_id a.object.owner m) number rest)) (next_one a.object.serial k)
      (contents_hold rest before (suc k) (holds_ids g e ids) number now (λ j low. holder j (omega (arith, low))) (λ j low. entry j (omega (arith, low)))
      (λ j low. clear j (omega (arith, low))))
    where
      next_one : (m n : ℕ) → m + suc n ≡ (m + n) + 1
      next_one m n = omega arith

  ends_holds : (h : WorkerContext) (run : Execution) (cs : List Outcome) → h.worker.run ≡ Some run → Among (Ended a cs) log → length cs ≡ results_of spec → Going h →
      Q (stops_by h (AtEnd cs) (Some run))
  ends_holds h run cs at ended all x =
      let is : run.attempt ≡ a = (x.holds.same run at).0 in
      let next : Execution = record run { phase = HasEnded cs } in
      let f : WorkerContext = with_phase h run (HasEnded cs) in
      let q : Q f = H.still_holds log net acks known me p began a base Present h run next at refl refl refl refl x.holds in
      let went : Went f a.object.owner a.object.serial 0 f = went_none f a.object.owner a.object.serial q
      (λ y i. subst (λ (z : Execution). z.is_over ≡ false) (some_run next y i) (x.going run at)) in
      let held : Q (keeps_contents f (object_id a.object.owner (a.object.serial + 0)) run.attempt.number cs) = contents_hold cs f 0 f run.attempt.number went
      (λ j low. inl (of j low, (cs, ended))) (λ j low. inl (of j low)) (λ j low other o. x.unsaid other (result j) (mine j low) o) in
      let at_first : Q (keeps_contents f run.attempt.object run.attempt.number cs) =
      subst (λ o. Q (keeps_contents f o run.attempt.number cs)) (ap (object_id a.object.owner) (no_more a.object.serial) ∙ ap (λ (b : Attempt). b.object) (sym is)) held in
      H.frees_holds log net acks known me p began a base Present (leaves_if_free (keeps_contents f run.attempt.object run.attempt.number cs))
      (H.leaves_holds log net acks known me p began a base Present (keeps_contents f run.attempt.object run.attempt.number cs) at_first)
    where
      no_more : (m : ℕ) → m + 0 ≡ m
      no_more m = omega arith

      result : ℕ → Id
      result j = object_id a.object.owner (a.object.serial + j)

      mine : (j : ℕ) → j < 0 + length cs → IsMine (object_id a.object.owner (a.object.serial + j))
      mine j low =
          is_made (record { object = a.object; birth = spec }) (object_id a.object.owner (a.object.serial + j)) refl (omega arith) (omega (arith, low, all))

      of : (j : ℕ) → j < 0 + length cs → H.IsResultOf log a (object_id a.object.owner (a.object.serial + j))
      of j low = (spec, spec_born, mine j low)

  pub commit_holds : (h : WorkerContext) (d : Outcomes) (run : Execution) → h.worker.run ≡ Some run → run.attempt ≡ a →
      ((x : Entry) → Among x (commit_entries a (next_id_here h) d.births d.prints (stop_of d.stop)) → Among x log) →
      ((cs : List Outcome) → d.stop ≡ AtEnd cs → Among (Ended a cs) log × (length cs ≡ results_of spec)) → Going h → Q (commit_step h d)
  commit_holds h d run at is logged ended x =
      let next : Execution = with_outcomes run d in
      let g : WorkerContext = logs_all (with_run h next) (commit_entries run.attempt (next_id_here h) d.births d.prints (stop_of d.stop)) in
      let q : Q (with_run h next) = H.still_holds log net acks known me p began a base Present h run next at refl refl refl refl x.holds in
      let started : Going g = record {
        holds = record { who = q.who; kept_began = q.kept_began; same = q.same; run = q.run; said = q.said };
        going = λ y i. subst (λ (z : Execution). z.is_over ≡ false) (some_run next y i) (x.going run at);
        room = x.room;
        young = x.young;
        unsaid = x.unsaid;
      } in
      let bore : Going (bears_all g a d.births) = bears_all_going d.births g d.prints (stop_of d.stop) logged started in
      subst Q (sym (ap (commit_by h d) at)) (subst (λ b. Q (stops (bears_all g b d.births) d.stop)) (sym is) (by_stop (bears_all g a d.births) bore d.stop refl))
    where
      by_stop : (f : WorkerContext) → Going f → (t : Stopped) → d.stop ≡ t → Q (stops f t)
      by_stop f y t e = by_run f.worker.run refl t e
        where
          by_run : (r : Option Execution) → f.worker.run ≡ r → (t : Stopped) → d.stop ≡ t → Q (stops_by f t r)
          by_run None i t e = y.holds
          by_run (Some z) i (AtGet need) e =
              needs-kept Q (H.holds_kept log net acks known me p began a base Present) f z need
              (H.still_holds log net acks known me p began a base Present f z (record z { phase = Waits need None }) i refl refl refl refl y.holds)
          by_run (Some z) i (AtEnd cs) e = ends_holds f z cs i (ended cs e).0 (ended cs e).1 y

-- The retries of a task are used up: it comes to rest, and its objects that have no copy are resolved.
use Rattle.std.proofs.Common.{◌≡◌, ℕ, ◌+◌, true, false, List, [], ◌∷◌, ◌++◌, Option, Some, None, inr, refl, sym, ap, ◌∙◌, subst}
use Rattle.std.specs.Prelude.{◌&&◌, is_none, if◌then◌else◌}
use Rattle.std.specs.List.{flat_map}
use Rattle.meaning.specs.Values.{Id}
use Rattle.kind_laws.specs.of_event_log.Entries.{Entry, Fault, Resolved, RetriesUsed}
use Rattle.kind_laws.specs.of_event_log.Words.{attempt, resolved_in, resolves_of}
use Rattle.kind_laws.specs.of_event_log.Breaks.{Among, RetriesAreUsed, breaks_of}
use Rattle.step_laws.specs.of_protocol.Sets.{fault, is_empty, object_id}
use Rattle.step_laws.specs.of_protocol.Tables.{Object, OwnTask, is_nowhere, is_pending_task, is_wanted, may_try_again}
use Rattle.step_laws.specs.of_protocol.Steps.{WorkerContext, each_result, with_task_of}
use Rattle.step_laws.specs.of_protocol.Asking.{resolves_used, resolves_used_by, rests}
use Rattle.protocol_legal.specs.Past.{Asking, Past, past}
use Rattle.protocol_legal.specs.Lost.{IsKnownFault}
use Rattle.protocol_legal.specs.Grows.{Grows}
use Rattle.protocol_legal.specs.Knows.{IsBegun, IsResultOf, IsSettled, IsSpent, KnowsTask, HasAccepted, listed}
use Rattle.protocol_legal.specs.During.{Frame, SoundHere}
use Rattle.protocol_legal.proofs.Allowing.{may_use_up, retries_are_used}
use Rattle.protocol_legal.proofs.Growing.{part_grows, used_more}
use Rattle.protocol_legal.proofs.Steps.{now}
use Rattle.protocol_legal.proofs.Asking.{OwnTaskAt, known_task}
use Rattle.protocol_legal.proofs.Accepting.{rested, rested_row, results, wanted_is_healthy, was_result}
use Rattle.protocol_legal.proofs.Resolving.{resolved_in_row, resolves_rows}
use Rattle.protocol_legal.proofs.RestResolved.{behind, entries_then, no_accepts, no_runs, past_then, resolves_then, rest_resolved, unrefused, way_then}

abbrev pub used_up : ℕ → ℕ → Fault
used_up w j = fault RetriesUsed (object_id w j)

abbrev AreUsed : List Entry → ℕ → ℕ → Type 0
AreUsed log w j = RetriesAreUsed log (object_id w j)

used_still : (log : List Entry) (w j i : ℕ) → AreUsed log w i → AreUsed (log ++ Resolved (object_id w j) (used_up w j) ∷ []) w i
used_still log w j i used = used_more log (Resolved (object_id w j) (used_up w j) ∷ []) (object_id w i) refl used (record { accepts = λ _. refl; runs = refl })

module _ (f : Frame) (asked : List Asking) (h : WorkerContext) (s : SoundHere f asked h) (k : ℕ) (task : OwnTask) (t : OwnTaskAt h k task) (pending : is_pending_task task ≡ true)
    (w n at_place : ℕ) (last : may_try_again task ≡ false) where
  abbrev o : Id
  o = object_id h.me k

  abbrev p : Past
  p = now f asked h s

  abbrev kt : KnowsTask p o h.worker.objects task
  kt = known_task f asked h s k task t

  abbrev r : ℕ
  r = results f asked h s k task t pending

  abbrev xs : List Object
  xs = rested f asked h s k task t pending

  abbrev es : List Entry
  es = entries_then is_wanted used_up f asked h s k task t pending

  abbrev q : Past
  q = past_then is_wanted used_up f asked h s k task t pending

  abbrev way : Grows p q
  way = way_then is_wanted used_up f asked h s k task t pending

  module _ (begun : IsBegun p o task w n) (broken : Among at_place (breaks_of (attempt o task.number) p.log)) where
    -- the retries are used up for each object of the task
    used_for : (j : ℕ) (z : Object) → IsResultOf p h.worker.objects (object_id h.me j) z k task → RetriesAreUsed p.log (object_id h.me j)
    used_for j z km = retries_are_used p (object_id h.me j) o km.0 h.worker.objects task w n at_place km.3 kt last begun broken

    used_then : (j : ℕ) (z : Object) → IsResultOf p h.worker.objects (object_id h.me j) z k task → RetriesAreUsed q.log (object_id h.me j)
    used_then j z km =
        let u = used_for j z km in
        subst (λ l. RetriesAreUsed l (object_id h.me j)) (sym (behind is_wanted used_up f asked h s k task t pending))
        (used_more p.log es (object_id h.me j) (unrefused is_wanted used_up f asked h s k task t pending) u
        (record { accepts = λ i. no_accepts is_wanted used_up f asked h s k task t pending u.part.born.object i; runs = no_runs is_wanted used_up f asked h s k task t pending u.part.born.object }))

    -- the fault of an object that was wanted
    known_then : (j : ℕ) (z : Object) → IsResultOf p h.worker.objects (object_id h.me j) z k task → resolves_of (object_id h.me j) q.log ≡ used_up h.me j ∷ [] → IsKnownFault q.log (used_up h.me j)
    known_then j z km res = record { cause = used_then j z km; firm = subst (Among (used_up h.me j)) (sym res) (0, refl) }

    -- an object of the task is resolved so
    spent_now : IsSpent q.log o
    spent_now =
        let v = kt.wanted pending in
        let j = k + v.place in
        let ko = s.knows.objects j v.object v.there in
        let km = was_result f asked h s k task t pending j v.object v.there v.first v.object.source refl ko.source in
        let row = rested_row f asked h s k task t pending v.place v.within in
        let before = row.before in
        let there = v.there in
        let old : row.old ≡ v.object = cc in
        let wanted : is_wanted row.new ≡ true = ap (λ r'. is_none r' && is_nowhere row.new) row.fault ∙ ap (λ ps. is_none row.old.fault && (is_empty ps && is_none row.new.kept)) row.locations ∙ ap (λ c. is_none row.old.fault && (is_empty row.old.locations && is_none c)) row.kept ∙ ap is_wanted old ∙ v.wanted in
        let res : resolves_of (object_id h.me j) q.log ≡ used_up h.me j ∷ [] =
        resolves_then is_wanted used_up f asked h s k task t pending j ∙ ap (λ xs'. xs' ++ flat_map (resolved_in (object_id h.me j)) es) (ko.resolved ∙ ap listed (wanted_is_healthy v.object v.wanted))
        ∙ resolved_in_row is_wanted used_up xs h.me k r v.place row.new v.within row.there ∙ ap (λ b. if b then used_up h.me j ∷ [] else []) wanted in
        record {
          object = object_id h.me j;
          part = record { born = record { object = o; birth = task.spec }; place = km.0 };
          born = part_grows p q way (object_id h.me j) (record { born = record { object = o; birth = task.spec }; place = km.0 }) km.3;
          same = refl;
          known = known_then j v.object km res;
        }

    -- an object that isn't resolved has a content that was accepted
    settled_then : (at : ℕ) (new : Object) → new.fault ≡ None → is_wanted new ≡ false → ((number : ℕ) → new.settled ≡ Some number → HasAccepted q.log o number at new) → (new.settled ≡ None → (new.locations ≡ []) × (new.kept ≡ None)) → IsSettled q.log o at new
    settled_then at new none b made bare = go new.settled refl
      where
        go : (r' : Option ℕ) → new.settled ≡ r' → IsSettled q.log o at new
        go (Some number) e = record { number = number; settled = e; accepted = made number e; placed = λ _. inr spent_now }
        go None e = let b' = bare e in let c : is_wanted new ≡ true = ap (λ f'. is_none f' && is_nowhere new) none ∙ ap (λ ps. is_empty ps && is_none new.kept) b'.0 ∙ ap is_none b'.1 in absurd (cc)

    -- the objects that have no copy are resolved, each as is allowed, and what the owner knows then of all its objects is true
    pub used_sound : SoundHere f asked (each_result resolves_used (with_task_of h o (rests task)) o task)
    used_sound =
        subst (SoundHere f asked) (sym (resolves_rows is_wanted used_up resolves_used_by (λ g j. refl) (λ g j z. refl) (with_task_of h o (rests task)) k r))
        (rest_resolved is_wanted used_up f asked h s k task t pending w n begun wanted_is_healthy AreUsed used_still (λ st log v j apart own none used. may_use_up st (past log []) (object_id v j) apart own none used)
        used_for known_then settled_then)

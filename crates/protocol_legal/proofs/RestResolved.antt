-- A task comes to rest, and those of its objects are resolved for which a test is true: what its owner knows then.
use Rattle.std.proofs.Common.{◌≡◌, ℕ, zero, suc, ◌+◌, ◌<◌, Bool, true, false, List, [], ◌∷◌, ◌++◌, length, Option, Some, None, inl, inr, refl, sym, ap, ◌∙◌, subst, arith, append_assoc, append-nil}
use Rattle.std.specs.Prelude.{◌==◌, ◌&&◌, ◌⊎◌, is_none, if◌then◌else◌}
use Rattle.std.specs.List.{flat_map}
use Rattle.std.proofs.lemmas.Bool.{eqb-true}
use Rattle.std.proofs.lemmas.Bool.Decides.{nat_tests}
use Rattle.meaning.specs.Values.{Id}
use Rattle.meaning.proofs.BirthLaws.{at_test}
use Rattle.meaning.specs.Births.{same_id}
use Rattle.kind_laws.specs.of_event_log.Entries.{Entry, Fault, Resolved, In, main_object}
use Rattle.kind_laws.specs.of_event_log.Rules.{IsOwn, MayResolve, Setting}
use Rattle.kind_laws.specs.of_event_log.Words.{attempt, accepted_in, bearers_of, bearer_in, births, own_in, resolved_in, resolves_of, released_in, run_in}
use Rattle.kind_laws.specs.of_event_log.Events.{refused_next}
use Rattle.kind_laws.specs.of_event_log.Legal.{has_event}
use Rattle.kind_laws.specs.of_event_log.Breaks.{Among}
use Rattle.step_laws.specs.of_protocol.Numbered.{item_at}
use Rattle.step_laws.specs.of_protocol.Sets.{object_id}
use Rattle.step_laws.specs.of_protocol.Tables.{Beside, ByTask, ObjectSource, Object, OwnTask, Execution, WasPut, Worker, first_by, is_pending_task, task_of, with_fault, with_task}
use Rattle.step_laws.specs.of_protocol.Steps.{WorkerContext, with_worker}
use Rattle.step_laws.specs.of_protocol.Asking.{rests}
use Rattle.protocol_legal.specs.Past.{Asking, Past}
use Rattle.protocol_legal.specs.Lost.{IsKnownFault}
use Rattle.protocol_legal.specs.Grows.{Grows}
use Rattle.protocol_legal.specs.Knows.{HasStopped, IsBegun, IsResultOf, IsRow, IsSettled, KnowsSource, KnowsObject, KnowsResult, KnowsTask, HasAccepted, listed, once}
use Rattle.protocol_legal.specs.Names.{NamesOf}
use Rattle.protocol_legal.specs.During.{Frame, SoundHere, past_of}
use Rattle.protocol_legal.proofs.Numbers.{item-same, item-elsewhere}
use Rattle.protocol_legal.proofs.Allowing.{own_not_main}
use Rattle.protocol_legal.proofs.Growing.{known_more, part_grows, word_grows}
use Rattle.protocol_legal.proofs.Keeping.{SpeakOfObjects, accepted_grows, same_word, worker_with_rows}
use Rattle.protocol_legal.proofs.Names.{names_grow}
use Rattle.protocol_legal.proofs.RowChange.{accepted_same}
use Rattle.protocol_legal.proofs.Tasks.{rested_task}
use Rattle.protocol_legal.proofs.Steps.{now}
use Rattle.protocol_legal.proofs.Asking.{OwnTaskAt, kept_stop, known_task}
use Rattle.protocol_legal.proofs.EndRows.{all_known}
use Rattle.protocol_legal.proofs.Accepting.{IsPlaceOf, RestedRow, not_first, not_here, outside, place_of, rested, rested_row, results, was_result}
use Rattle.protocol_legal.proofs.Resolving.{all_allowed, event_changes, event_of, goes_to, none_in, resolved-length, resolved_entries, resolved_in_row, resolved_once, resolved_out, resolved_row, resolved_rows, row_in, row_out, rows_at, entry_at, sound_of, CanResolve, SoundEvent}
use Rattle.step_laws.proofs.Lists.{changed-length}

module _ (test : Object → Bool) (cause : ℕ → ℕ → Fault) where
  no_event_with : (w j : ℕ) (r : Option Object) (es : List Entry) → (has_event es ≡ false) × (refused_next es ≡ false) → (has_event (entry_at test cause w j r ++ es) ≡ false) × (refused_next (entry_at test cause w j r ++ es) ≡ false)
  no_event_with w j None es h = h
  no_event_with w j (Some z) es h = at_test (λ b. (has_event ((if b then Resolved (object_id w j) (cause w j) ∷ [] else []) ++ es) ≡ false) × (refused_next ((if b then Resolved (object_id w j) (cause w j) ∷ [] else []) ++ es) ≡ false)) (test z)
      (λ b. (h.0, refl)) (λ b. h)

  -- none of the entries is an event, or a refusal
  no_event_in : (xs : List Object) (w j n : ℕ) → (has_event (resolved_entries test cause xs w j n) ≡ false) × (refused_next (resolved_entries test cause xs w j n) ≡ false)
  no_event_in xs w j zero = (refl, refl)
  no_event_in xs w j (suc n) = no_event_with w j (item_at xs j) (resolved_entries test cause (rows_at test cause xs w j (item_at xs j)) w (j + 1) n) (no_event_in (rows_at test cause xs w j (item_at xs j)) w (j + 1) n)

  module _ (f : Frame) (asked : List Asking) (h : WorkerContext) (s : SoundHere f asked h) (k : ℕ) (task : OwnTask) (t : OwnTaskAt h k task) (pending : is_pending_task task ≡ true) where
    abbrev o : Id
    o = object_id h.me k

    abbrev p : Past
    p = now f asked h s

    abbrev kt : KnowsTask p o h.worker.objects task
    kt = known_task f asked h s k task t

    abbrev r : ℕ
    r = results f asked h s k task t pending

    abbrev xs : List Object
    xs = rested f asked h s k task t pending

    abbrev es : List Entry
    es = resolved_entries test cause xs h.me k r

    abbrev ys : List Object
    ys = resolved_rows test cause xs h.me k r

    abbrev y : Worker
    y = record h.worker { objects = ys }

    abbrev pub q : Past
    q = past_of f (h.there.out.entries ++ es) asked

    pub behind : q.log ≡ p.log ++ es
    behind = ap (λ l. f.log ++ l) (refl) ∙ sym (append_assoc f.log (In f.event f.seat ∷ h.there.out.entries) es)

    pub no_runs : (z : Id) → flat_map (run_in z) es ≡ []
    no_runs z = none_in test cause (run_in z) (λ _ _. refl) xs h.me k r

    pub no_accepts : (z : Id) (i : ℕ) → flat_map (accepted_in (attempt z i)) es ≡ []
    no_accepts z i = none_in test cause (accepted_in (attempt z i)) (λ _ _. refl) xs h.me k r

    pub unrefused : refused_next es ≡ false
    unrefused = (no_event_in xs h.me k r).1

    abbrev pub way : Grows p q
    way = record {
      entries = es;
      log = behind;
      unrefused = unrefused;
      news = [];
      asked = sym (append-nil asked);
      faults = λ g e. subst (λ l. IsKnownFault l g) (sym behind) (known_more p.log es g unrefused (λ u _. record { accepts = λ i. no_accepts u.part.born.object i; runs = no_runs u.part.born.object }) e);
    }

    pub speak : SpeakOfObjects es
    speak = record {
      no_event = (no_event_in xs h.me k r).0;
      births = none_in test cause Rattle.kind_laws.specs.of_event_log.Words.born_in (λ _ _. refl) xs h.me k r;
      own = λ a. none_in test cause (own_in a) (λ _ _. refl) xs h.me k r;
      prints = λ a. none_in test cause (Rattle.kind_laws.specs.of_event_log.Words.printed_in a) (λ _ _. refl) xs h.me k r;
      answers = λ a. none_in test cause (Rattle.kind_laws.specs.of_event_log.Words.got_in a) (λ _ _. refl) xs h.me k r;
      ended = λ a. none_in test cause (Rattle.kind_laws.specs.of_event_log.Words.ended_in a) (λ _ _. refl) xs h.me k r;
      faulted = λ a. none_in test cause (Rattle.kind_laws.specs.of_event_log.Words.faulted_in a) (λ _ _. refl) xs h.me k r;
    }

    -- what it comes to
    abbrev pub entries_then : List Entry
    entries_then = es

    abbrev pub objects_then : List Object
    objects_then = ys

    abbrev pub past_then : Past
    past_then = q

    abbrev pub way_then : Grows p q
    way_then = way

    -- the row of an object of the task: before, at rest, and then
    pub record ThenRow (j : ℕ) (z v : Object) : Type 0 where
      pub place : IsPlaceOf f asked h s k task t pending j
      pub row : RestedRow f asked h s k task t pending place.place
      pub old : row.old ≡ z
      pub new : v ≡ resolved_row test cause h.me j row.new
      pub resolved : flat_map (resolved_in (object_id h.me j)) es ≡ resolved_once test cause h.me j row.new

    then_row : (j : ℕ) (z v : Object) → item_at h.worker.objects j ≡ Some z → first_by j z.source ≡ k → item_at ys j ≡ Some v → ThenRow j z v
    then_row j z v at first atv =
        let pl = place_of f asked h s k task t pending j z at first in
        let row = rested_row f asked h s k task t pending pl.place pl.within in
        let at' : item_at h.worker.objects (k + pl.place) ≡ Some z = ap (item_at h.worker.objects) (sym pl.serial) ∙ at in
        let before = row.before in
        let atv' : item_at ys (k + pl.place) ≡ Some v = ap (item_at ys) (sym pl.serial) ∙ atv in
        let there = row_in test cause xs h.me k r pl.place row.new pl.within row.there in
        let is : v ≡ resolved_row test cause h.me (k + pl.place) row.new = cc in
        record {
          place = pl;
          row = row;
          old = cc;
          new = is ∙ ap (λ i. resolved_row test cause h.me i row.new) (sym pl.serial);
          resolved = ap (λ i. flat_map (resolved_in (object_id h.me i)) es) pl.serial ∙ resolved_in_row test cause xs h.me k r pl.place row.new pl.within row.there ∙ ap (λ i. resolved_once test cause h.me i row.new) (sym pl.serial);
        }

    pub resolves_then : (j : ℕ) → resolves_of (object_id h.me j) q.log ≡ resolves_of (object_id h.me j) p.log ++ flat_map (resolved_in (object_id h.me j)) es
    resolves_then j = ap (resolves_of (object_id h.me j)) behind ∙ Rattle.std.proofs.lemmas.List.Concat.flat_map-append (resolved_in (object_id h.me j)) p.log es

    module _ (w n : ℕ) (begun : IsBegun p o task w n) (healthy : (z : Object) → test z ≡ true → z.fault ≡ None)
        (Reason : List Entry → ℕ → ℕ → Type 0) (stays : (log : List Entry) (v j i : ℕ) → Reason log v i → Reason (log ++ Resolved (object_id v j) (cause v j) ∷ []) v i)
        (allowed : (s : Setting) (log : List Entry) (v j : ℕ) → same_id (object_id v j) main_object ≡ false → IsOwn s log v → resolves_of (object_id v j) log ≡ [] → Reason log v j → MayResolve s log (object_id v j) (cause v j))
        (reasons : (j : ℕ) (z : Object) → IsResultOf p h.worker.objects (object_id h.me j) z k task → Reason p.log h.me j)
        (known_then : (j : ℕ) (z : Object) → IsResultOf p h.worker.objects (object_id h.me j) z k task → resolves_of (object_id h.me j) q.log ≡ cause h.me j ∷ [] → IsKnownFault q.log (cause h.me j))
        (settled : (at : ℕ) (new : Object) → new.fault ≡ None → test new ≡ false → ((number : ℕ) → new.settled ≡ Some number → HasAccepted q.log o number at new) → (new.settled ≡ None → (new.locations ≡ []) × (new.kept ≡ None)) → IsSettled q.log o at new) where
      can : CanResolve test cause Reason stays allowed f (with_worker h y) xs k r
      can i z l at wanted =
          let row = rested_row f asked h s k task t pending i l in
          let there = row.there in
          let is : row.new ≡ z = cc in
          let none : row.old.fault ≡ None = sym row.fault ∙ ap (λ (u : Object). u.fault) is ∙ healthy z wanted in
          let ko = s.knows.objects (k + i) row.old row.before in (
            own_not_main h (k + i) row.old row.before,
            ko.resolved ∙ ap listed none,
            reasons (k + i) row.old (was_result f asked h s k task t pending (k + i) row.old row.before row.of row.old.source refl ko.source),
          )

      event : SoundEvent f asked (goes_to h ys es)
      event = all_allowed test cause Reason stays allowed f asked (with_worker h y) xs k r (event_changes f asked h ys (event_of f asked h s)) can

      -- ---- what is known then

      rows_then : (i : ℕ) → i < r → IsRow ys k (k + i) kt.released
      rows_then i l =
          let row = rested_row f asked h s k task t pending i l in
          let there = row_in test cause xs h.me k r i row.new l row.there in
          at_test (λ b. item_at ys (k + i) ≡ Some (if b then with_fault (cause h.me (k + i)) row.new else row.new) → IsRow ys k (k + i) kt.released) (test row.new)
          (λ b e. record { object = with_fault (cause h.me (k + i)) row.new; there = e; of = row.first; is_released = row.is_released ∙ row.released })
          (λ b e. record { object = row.new; there = e; of = row.first; is_released = row.is_released ∙ row.released }) there

      task_now : KnowsTask q o ys (rests task)
      task_now = rested_task p q way o h.worker.objects task w n kt begun (λ a j u. u) ys rows_then (no_runs o) (λ i _. no_accepts o i)

      first_row : task_of (item_at ys k) ≡ Some (rests task)
      first_row =
          let l : 0 < r = omega arith in
          let e : ◌≡◌ {A = ℕ} (k + 0) k = omega arith in
          let z = with_task (rests task) t.object in
          let at : item_at xs (k + 0) ≡ Some z = ap (item_at xs) e ∙ item-same h.worker.objects k (with_task (rests task)) t.object t.there in
          ap (λ j. task_of (item_at ys j)) (sym e) ∙ ap task_of (row_in test cause xs h.me k r 0 z l at)
          ∙ at_test (λ b. task_of (Some (if b then with_fault (cause h.me (k + 0)) z else z)) ≡ Some (rests task)) (test z) (λ b. refl) (λ b. refl)

      -- what is known of the result then
      result_then : (j at : ℕ) (new : Object) → (made : (number : ℕ) → new.settled ≡ Some number → HasAccepted p.log o number at new) → (new.settled ≡ None → (new.locations ≡ []) × (new.kept ≡ None)) →
          KnowsResult q.log (object_id h.me j) o at (resolved_row test cause h.me j new) false
      result_then j at new made bare =
          at_test (λ b. test new ≡ b → KnowsResult q.log (object_id h.me j) o at (if b then with_fault (cause h.me j) new else new) false) (test new)
          (λ b _. record {
            made = λ number e. accepted_grows p q way o number at new.kept new.is_released (made number e);
            bare = bare;
            rests = λ _ e. absurd (cc);
            spent = λ e. refl;
          })
          (λ b _. record {
            made = λ number e. accepted_grows p q way o number at new.kept new.is_released (made number e);
            bare = bare;
            rests = λ _ none. settled at new none b (λ number e. accepted_grows p q way o number at new.kept new.is_released (made number e)) bare;
            spent = λ e. refl;
          }) refl

      source_then : (j : ℕ) (z v : Object) → (j == k) ≡ false → (m : ObjectSource) → z.source ≡ m → first_by j m ≡ k → IsResultOf q ys (object_id h.me j) v k (rests task) → KnowsSource q h.worker.node ys (object_id h.me j) v m
      source_then j z v d WasPut e first res = let c : (j == k) ≡ true = grind (arith, nat_tests, first) in absurd (cc)
      source_then j z v d (ByTask u) e first res = let c : (j == k) ≡ true = grind (arith, nat_tests, first) in absurd (cc)
      source_then j z v d (Beside i) e first res = (rests task, ap (λ i'. task_of (item_at ys i')) first ∙ first_row, subst (λ i'. IsResultOf q ys (object_id h.me j) v i' (rests task)) (sym first) res)

      -- of a row that was wanted or not: what doesn't change, and its fault
      pub record Then (j : ℕ) (new v : Object) : Type 0 where
        pub bearer : v.bearer ≡ new.bearer
        pub source : v.source ≡ new.source
        pub is_released : v.is_released ≡ new.is_released
        pub names : NamesOf q.log (object_id h.me j) new → NamesOf q.log (object_id h.me j) v
        pub fault : ((new.fault ≡ None) × (v.fault ≡ Some (cause h.me j)) × (resolved_once test cause h.me j new ≡ cause h.me j ∷ [])) ⊎ ((v.fault ≡ new.fault) × (resolved_once test cause h.me j new ≡ []))

      then_of : (j : ℕ) (new v : Object) → v ≡ resolved_row test cause h.me j new → Then j new v
      then_of j new v e =
          at_test (λ b. test new ≡ b → v ≡ (if b then with_fault (cause h.me j) new else new) → Then j new v) (test new)
          (λ b w' e'. record {
            bearer = ap (λ (u : Object). u.bearer) e';
            source = ap (λ (u : Object). u.source) e';
            is_released = ap (λ (u : Object). u.is_released) e';
            names = λ n'. subst (NamesOf q.log (object_id h.me j)) (sym e') n';
            fault = inl (healthy new b, ap (λ (u : Object). u.fault) e', ap (λ c. if c then cause h.me j ∷ [] else []) b);
          })
          (λ b w' e'. record {
            bearer = ap (λ (u : Object). u.bearer) e';
            source = ap (λ (u : Object). u.source) e';
            is_released = ap (λ (u : Object). u.is_released) e';
            names = λ n'. subst (NamesOf q.log (object_id h.me j)) (sym e') n';
            fault = inr (ap (λ (u : Object). u.fault) e', ap (λ c. if c then cause h.me j ∷ [] else []) b);
          }) refl e

      group : (j : ℕ) (z v : Object) → item_at h.worker.objects j ≡ Some z → first_by j z.source ≡ k → item_at ys j ≡ Some v → KnowsObject q y (object_id h.me j) v
      group j z v at first atv =
          let u = then_row j z v at first atv in
          let row = u.row in
          let ko = s.knows.objects j z at in
          let km = was_result f asked h s k task t pending j z at first z.source refl ko.source in
          let th = then_of j row.new v u.new in
          let bearer : v.bearer ≡ z.bearer = th.bearer ∙ row.bearer ∙ ap (λ (x : Object). x.bearer) u.old in
          let release : v.is_released ≡ z.is_released = th.is_released ∙ row.is_released ∙ ap (λ (x : Object). x.is_released) u.old in
          let new_fault : row.new.fault ≡ z.fault = row.fault ∙ ap (λ (x : Object). x.fault) u.old in
          let new_settled : row.new.settled ≡ z.settled = row.settled ∙ ap (λ (x : Object). x.settled) u.old in
          let new_locations : row.new.locations ≡ z.locations = row.locations ∙ ap (λ (x : Object). x.locations) u.old in
          let new_kept : row.new.kept ≡ z.kept = row.kept ∙ ap (λ (x : Object). x.kept) u.old in
          let new_release : row.new.is_released ≡ z.is_released = row.is_released ∙ ap (λ (x : Object). x.is_released) u.old in
          let old_names : NamesOf p.log (object_id h.me (k + u.place.place)) row.old = subst (λ i. NamesOf p.log (object_id h.me i) row.old) u.place.serial (subst (NamesOf p.log (object_id h.me j)) (sym u.old) ko.names) in
          let new_names : NamesOf p.log (object_id h.me j) row.new = subst (λ i. NamesOf p.log (object_id h.me i) row.new) (sym u.place.serial) (row.names p.log old_names) in
          let res : IsResultOf q ys (object_id h.me j) v k (rests task) = (
            km.0,
            km.1,
            km.2,
            part_grows p q way (object_id h.me j) (record { born = record { object = o; birth = task.spec }; place = km.0 }) km.3,
            subst (λ x. KnowsResult q.log (object_id h.me j) o km.0 x false) (sym u.new)
                (result_then j km.0 row.new (λ number e. accepted_same p.log o number km.0 z row.new new_release new_kept (km.4.made number (sym new_settled ∙ e)))
                (λ e. let b = km.4.bare (sym new_settled ∙ e) in (new_locations ∙ b.0, new_kept ∙ b.1))),
          ) in
          let words : resolves_of (object_id h.me j) q.log ≡ listed z.fault ++ resolved_once test cause h.me j row.new = resolves_then j ∙ ap (λ xs'. xs' ++ flat_map (resolved_in (object_id h.me j)) es) ko.resolved ∙ ap (λ ws. listed z.fault ++ ws) u.resolved in
          record {
            bearer = subst (λ b. Among b (bearers_of (object_id h.me j) q.log)) (sym bearer) (word_grows p q way z.bearer (bearer_in (object_id h.me j)) ko.bearer);
            stopped = subst (λ b. HasStopped q.log b ⊎ ((x : Execution) × (h.worker.run ≡ Some x) × (x.attempt ≡ b))) (sym bearer) (kept_stop p q way h.worker ys z.bearer ko.stopped);
            resolved = elim th.fault [
              | inl a ↦ words ∙ ap (λ r'. listed r' ++ resolved_once test cause h.me j row.new) (sym new_fault ∙ a.0) ∙ a.2 ∙ ap listed (sym a.1)
              | inr a ↦ words ∙ ap (λ ws. listed z.fault ++ ws) a.1 ∙ append-nil (listed z.fault) ∙ ap listed (sym new_fault ∙ sym a.0)
            ];
            known = λ g e. elim th.fault [
              | inl a ↦ let is : Some (cause h.me j) ≡ Some g = sym a.1 ∙ e in
                  let same : cause h.me j ≡ g = cc in
                  subst (IsKnownFault q.log) same (known_then j z km (words ∙ ap (λ r'. listed r' ++ resolved_once test cause h.me j row.new) (sym new_fault ∙ a.0) ∙ a.2))
              | inr a ↦ way.faults g (ko.known g (sym new_fault ∙ sym a.0 ∙ e))
            ];
            released = same_word p q way (released_in (object_id h.me j)) (none_in test cause (released_in (object_id h.me j)) (λ _ _. refl) xs h.me k r) ∙ ko.released ∙ ap (λ b. once b (object_id h.me j)) (sym release);
            source =
                at_test (λ b. (j == k) ≡ b → KnowsSource q h.worker.node ys (object_id h.me j) v v.source) (j == k)
                (λ b _. let j_is = eqb-true j k b in
                let at_k : ((k + u.place.place) == k) ≡ true = ap (λ i. i == k) (sym u.place.serial) ∙ b in
                subst (KnowsSource q h.worker.node ys (object_id h.me j) v) (sym (th.source ∙ row.at_first at_k))
                (subst (λ i. KnowsTask q (object_id h.me i) ys (rests task)) (sym j_is) task_now, subst (λ i. IsResultOf q ys (object_id h.me j) v i (rests task)) (sym j_is) res))
                (λ b _. let at_k : ((k + u.place.place) == k) ≡ false = ap (λ i. i == k) (sym u.place.serial) ∙ b in
                let same_source : v.source ≡ z.source = th.source ∙ row.else_ at_k ∙ ap (λ (x : Object). x.source) u.old in
                subst (KnowsSource q h.worker.node ys (object_id h.me j) v) (sym same_source) (source_then j z v b z.source refl first res)) refl;
            names = th.names (names_grow p q way (object_id h.me j) row.new.ids row.new.added row.new.dead_holder new_names);
          }

      -- ---- all objects, and the step

      same : (j : ℕ) (z : Object) → item_at h.worker.objects j ≡ Some z → (first_by j z.source == k) ≡ false → item_at ys j ≡ Some z
      same j z at d =
          let out = outside f asked h s k task t pending j (not_here f asked h s k task t pending j z at d) in
          row_out test cause xs h.me k r j out ∙ item-elsewhere h.worker.objects j k (with_task (rests task)) (not_first f asked h s k task t pending j out) ∙ at

      get_back : (us zs : List Object) (i : ℕ) (v : Object) → length us ≡ length zs → Rattle.std.specs.Prelude.slice_get us i ≡ Some v → (z : Object) × (Rattle.std.specs.Prelude.slice_get zs i ≡ Some z)
      get_back [] zs i v e a = absurd (cc)
      get_back (u ∷ us) [] i v e a = absurd (cc)
      get_back (u ∷ us) (z ∷ zs) zero v e a = (z, refl)
      get_back (u ∷ us) (z ∷ zs) (suc i) v e a = get_back us zs i v (omega (arith, e)) a

      as_long : length ys ≡ length h.worker.objects
      as_long = resolved-length test cause xs h.me k r ∙ changed-length h.worker.objects k (with_task (rests task))

      back : (j : ℕ) (v : Object) → item_at ys j ≡ Some v → (z : Object) × (item_at h.worker.objects j ≡ Some z)
      back zero v at = absurd (cc)
      back (suc i) v at = get_back ys h.worker.objects i v as_long at

      each : (j : ℕ) (v : Object) → item_at ys j ≡ Some v → KnowsObject q y (object_id h.me j) v
      each =
          all_known p q way h.worker h.me k ys same back (λ j d. record { runs = no_runs (object_id h.me j); accepts = λ i. no_accepts (object_id h.me j) i; asked = λ i n' a. a })
          (λ j z at d. record { resolves = resolved_out test cause xs h.me k r j (outside f asked h s k task t pending j (not_here f asked h s k task t pending j z at d)); releases = none_in test cause (released_in (object_id h.me j)) (λ _ _. refl) xs h.me k r })
          s.knows.objects group

      -- the objects for which the test is true are resolved, each as is allowed, and what the owner knows then of all its objects is true
      pub rest_resolved : SoundHere f asked (goes_to h ys es)
      rest_resolved = sound_of f asked (goes_to h ys es) event (worker_with_rows p q way speak f.setting h.me h.worker ys as_long s.there.calm s.knows each)

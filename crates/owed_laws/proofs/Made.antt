-- What is made by a log with one more event was made before it, or by what the event logged, or is small.
use Rattle.std.proofs.Common.{[], ap, arith, inl, inr, List, None, Option, refl, Some, subst, suc, sym, zero, ℕ, ◌++◌, ◌+◌, ◌-◌, ◌∙◌, ◌∷◌, ◌≡◌, ◌≤◌, ◌⊎◌}
use Rattle.std.specs.Prelude.{Bool, true, false, if◌then◌else◌, slice_get}
use Rattle.std.specs.List.{flat_map}
use Rattle.std.proofs.lemmas.List.Concat.{flat_map-append}
use Rattle.sequence.proofs.Places.{slice_get-append}
use Rattle.meaning.proofs.BirthLaws.{at_test, first_is_made, made_from, made_owner, part_is_made, same_id-true}
use Rattle.meaning.specs.Births.{Bearing, Part, birth_at, part_at, same_id}
use Rattle.protocol.specs.Sets.{object_id}
use Rattle.event_log.proofs.Extending.{birth_at-more, births-more, node_of-more}
use Rattle.meaning.specs.Values.{Birth, Id, Put}
use Rattle.values.specs.Cells.{is_small}
use Rattle.event_log.specs.Breaks.{Among}
use Rattle.event_log.specs.Entries.{Accepted, Attempt, Begun, Born, Ended, Entry, Event, Faulted, Got, In, Opened, Printed, Refused, Released, Resolved}
use Rattle.event_log.specs.Events.{node_of}
use Rattle.event_log.specs.Rules.{Setting}
use Rattle.event_log.specs.Sane.{Sane}
use Rattle.event_log.specs.Words.{attempt, births, born_in, ended_in, ends_of, main_bearing, run_in, runs_of, worker_of}
use Rattle.event_log.proofs.SaneLaws.{legal_logs_are_sane}
use Rattle.protocol.specs.Cluster.{ClusterState}
use Rattle.owed_asks.specs.of_protocol_legal.Made.{EndsSmall, IsEndedAt, IsMadeAt, IsPutAt}
use Rattle.owed_asks.specs.of_protocol_legal.Whole.{Between, setting_of}
use Rattle.protocol_owed.proofs.Envelopes.{among-append_cases, among-nothing}
use Rattle.owed_replies.proofs.Advancing.{flat_among}
use Rattle.owed_replies.proofs.Contents.{ended_entry}
use Rattle.owed_laws.proofs.MadeCopies.{IsNewEnd, IsNewPut}

birth_behind : (xs ys : List Bearing) (o : Id) → birth_at xs o ≡ None → birth_at (xs ++ ys) o ≡ birth_at ys o
birth_behind [] ys o e = refl
birth_behind (x ∷ xs) ys o e =
    at_test (λ t. (if t then Some x.birth else birth_at xs o) ≡ None → (if t then Some x.birth else birth_at (xs ++ ys) o) ≡ birth_at ys o) (same_id x.object o)
    (λ _ f. absurd (some_none f)) (λ _ f. birth_behind xs ys o f) e
  where
    some_none : Some x.birth ≡ None → ⊥
    some_none f = cc

birth_among : (xs : List Bearing) (o : Id) (b : Birth) → birth_at xs o ≡ Some b → Among (record { object = o; birth = b }) xs
birth_among [] o b e = absurd (cc)
birth_among (x ∷ xs) o b e =
    at_test (λ t. same_id x.object o ≡ t → (if t then Some x.birth else birth_at xs o) ≡ Some b → Among (record { object = o; birth = b }) (x ∷ xs)) (same_id x.object o)
    (λ _ same f. (zero, ap (λ y. Some y) (is x (same_id-true x.object o same) f))) (λ _ _ f. let r = birth_among xs o b f in (suc r.0, r.1)) refl e
  where
    is : (x : Bearing) → x.object ≡ o → Some x.birth ≡ Some b → x ≡ record { object = o; birth = b }
    is x f g = let h : x.birth ≡ b = cc in ap (λ i. record { object = i; birth = x.birth }) f ∙ ap (λ c. record { object = o; birth = c }) h

-- the entry that bore it
born_entry : (es : List Entry) (o : Id) (b : Birth) → Among {X = Bearing} (record { object = o; birth = b }) (flat_map born_in es) → (a : Attempt) × Among (Born o a b) es
born_entry es o b i = let r = flat_among born_in es (record { object = o; birth = b }) i in by_entry r.0 r.2 r.1
  where
    none : {Y : Type 0} → Among {X = Bearing} (record { object = o; birth = b }) [] → Y
    none h = absurd (among-nothing _ h)

    by_entry : (x : Entry) → Among {X = Bearing} (record { object = o; birth = b }) (born_in x) → Among x es → (a : Attempt) × Among (Born o a b) es
    by_entry (Born p a d) (zero, e) k =
        let f : ◌≡◌ {A = Bearing} (record { object = p; birth = d }) (record { object = o; birth = b }) = cc in
        (a, subst (λ (z : Bearing). Among (Born z.object a z.birth) es) f k)
    by_entry (Born p a d) (suc j, e) k = absurd (cc)
    by_entry (In e seat) j k = none j
    by_entry (Refused code) j k = none j
    by_entry (Opened w n) j k = none j
    by_entry (Begun a w) j k = none j
    by_entry (Got a y c) j k = none j
    by_entry (Printed v) j k = none j
    by_entry (Ended a c) j k = none j
    by_entry (Accepted a) j k = none j
    by_entry (Faulted a y f) j k = none j
    by_entry (Resolved p f) j k = none j
    by_entry (Released p) j k = none j

-- the worker of an attempt stays so
pub runs_more : (log : List Entry) (e : Event) (seat : ℕ) (es : List Entry) (a : Attempt) (w : ℕ) → worker_of a log ≡ Some w → worker_of a (log ++ In e seat ∷ es) ≡ Some w
runs_more log e seat es a w runs = ap (λ xs. slice_get xs a.number) (flat_map-append (run_in a.object) log (In e seat ∷ es)) ∙
    slice_get-append (runs_of a.object log) (flat_map (run_in a.object) (In e seat ∷ es)) a.number w runs

module _ (s : Setting) (log : List Entry) (c : ClusterState) (b : Between s log c) (e : Event) (seat : ℕ) (es : List Entry) (after : Sane (log ++ In e seat ∷ es)) where
  abbrev later : List Entry
  later = log ++ In e seat ∷ es

  sane : Sane log
  sane = legal_logs_are_sane (setting_of s c) log b.legal

  same_number : (m n : ℕ) → ◌≡◌ {A = Option ℕ} (Some m) (Some n) → m ≡ n
  same_number m n f = cc

  same_birth : (x y : Birth) → ◌≡◌ {A = Option Birth} (Some x) (Some y) → x ≡ y
  same_birth x y f = cc

  births_then : births later ≡ births log ++ flat_map born_in (In e seat ∷ es)
  births_then = ap (λ xs. main_bearing ∷ xs) (flat_map-append born_in log (In e seat ∷ es))

  behind : {x : Entry} → Among x (In e seat ∷ es) → (x ≡ In e seat → ⊥) → Among x es
  behind {x} (zero, f) other = let g : In e seat ≡ x = cc in absurd (other (sym g))
  behind {x} (suc k, f) other = (k, f)

  -- the first object of a birth
  whole_part : (o : Id) (d : Birth) → birth_at (births log) o ≡ Some d → part_at (births log) o ≡ Some (record { born = record { object = o; birth = d }; place = 0 })
  whole_part o d f =
      sane.grouped.whole o o d f (first_is_made (record { object = o; birth = d })) ∙
      ap (λ i. Some (record { born = record { object = o; birth = d }; place = i })) (none o.serial)
    where
      none : (m : ℕ) → m - m ≡ 0
      none m = omega arith

  -- a part of a birth that was there is one of it
  part_before : (o : Id) (p : Part) (d : Birth) → part_at (births later) o ≡ Some p → birth_at (births log) p.born.object ≡ Some d → part_at (births log) o ≡ Some p
  part_before o p d at f =
      let made = part_is_made (births later) o p at in
      let same : p.born.birth ≡ d = same_birth p.born.birth d (sym (after.grouped.firsts o p at) ∙ births-more log (In e seat ∷ es) p.born.object d f) in
      sane.grouped.whole p.born.object o p.born.birth (f ∙ ap (λ x. Some x) (sym same)) made.0 ∙ ap (λ x. Some x) (sym made.1)

  -- what is put by then was put before, or by the event
  pub put_before : (o : Id) (number n : ℕ) → IsPutAt later o number n → IsMadeAt log o number n ⊎ IsNewPut es o number
  put_before o number n p = by_birth (birth_at (births log) o) refl
    where
      by_birth : (d : Option Birth) → birth_at (births log) o ≡ d → IsMadeAt log o number n ⊎ IsNewPut es o number
      by_birth (Some d) f =
          let home = b.knows.calm.homes o (record { born = record { object = o; birth = d }; place = 0 }, whole_part o d f) in
          let same : d ≡ Put p.value = same_birth d (Put p.value)
          (sym (birth_at-more (births log) (flat_map born_in (In e seat ∷ es)) o d f) ∙ ap (λ xs. birth_at xs o) (sym births_then) ∙ p.born) in
          let place : home.0 ≡ n = same_number home.0 n (sym (node_of-more log (In e seat ∷ es) o.owner home.0 home.1) ∙ p.home) in
          let born : birth_at (births log) o ≡ Some (Put p.value) = f ∙ ap (λ i. Some i) same in
          inl (inl (record { value = p.value; born = born; part = whole_part o (Put p.value) born; first = p.first; home = home.1 ∙ ap (λ i. Some i) place }))
      by_birth None f =
          let i = birth_among (flat_map born_in (In e seat ∷ es)) o (Put p.value)
          (sym (birth_behind (births log) (flat_map born_in (In e seat ∷ es)) o f) ∙ ap (λ xs. birth_at xs o) (sym births_then) ∙ p.born) in
          let r = born_entry (In e seat ∷ es) o (Put p.value) i in
          inr (r.0, p.value, behind r.1 (λ g. absurd (cc)), p.first)

  -- an attempt that ended by then ended before, or in the event, or with a small content
  pub end_before : (o : Id) (number n : ℕ) (p : IsEndedAt later o number n) →
      IsMadeAt log o number n ⊎ IsNewEnd es p.part.born.object o number ⊎ EndsSmall later o number
  end_before o number n p =
      let first : Id = p.part.born.object in
      let a : Attempt = attempt first number in
      elim (among-append_cases (ends_of a log) (flat_map (ended_in a) (In e seat ∷ es)) p.result.contents
      (subst (λ xs. Among p.result.contents xs) (flat_map-append (ended_in a) log (In e seat ∷ es)) p.result.ended)) [
        | inl old ↦
            let ran = sane.ended a old.0 p.result.contents old.1 in
            let node = sane.opened first number ran.0 ran.1 in
            let born = sane.born first number ran.0 ran.1 in
            let worker : ran.0 ≡ p.worker = same_number ran.0 p.worker (sym (runs_more log e seat es a ran.0 ran.1) ∙ p.runs) in
            let place : node.0 ≡ n = same_number node.0 n (sym (node_of-more log (In e seat ∷ es) ran.0 node.0 node.1) ∙ ap (λ w. node_of w later) worker ∙ p.home) in
            inl (inr (record {
              part = p.part;
              worker = ran.0;
              runs = ran.1;
              home = node.1 ∙ ap (λ i. Some i) place;
              content = p.content;
              result = record { born = part_before o p.part born.0 p.result.born born.1; contents = p.result.contents; ended = old; content = p.result.content };
            }))
        | inr new ↦ by_size new (is_small p.content) refl
      ]
    where
      -- its place among the objects of its birth
      is_there : o ≡ object_id p.part.born.object.owner (p.part.born.object.serial + p.part.place)
      is_there =
          let made = part_is_made (births later) o p.part p.result.born in
          let low = made_from p.part.born o made.0 in
          let place : p.part.place ≡ o.serial - p.part.born.object.serial = ap (λ (q : Part). q.place) made.1 in
          ap (λ w. object_id w o.serial) (sym (made_owner p.part.born o made.0)) ∙
          ap (object_id p.part.born.object.owner) (back o.serial p.part.born.object.serial p.part.place low place)
        where
          back : (m k i : ℕ) → k ≤ m → i ≡ m - k → m ≡ k + i
          back m k i low place = omega (arith, low, place)

      by_size : Among p.result.contents (flat_map (ended_in (attempt p.part.born.object number)) (In e seat ∷ es)) → (t : Bool) → is_small p.content ≡ t →
          IsMadeAt log o number n ⊎ IsNewEnd es p.part.born.object o number ⊎ EndsSmall later o number
      by_size new true small = inr (inr (p.part, p.content, p.result, small))
      by_size new false big = inr (inl (record {
        contents = p.result.contents;
        place = p.part.place;
        content = p.content;
        ended = behind (ended_entry (In e seat ∷ es) (attempt p.part.born.object number) p.result.contents new) (λ g. absurd (cc));
        is = is_there;
        has = p.result.content;
        big = big;
      }))

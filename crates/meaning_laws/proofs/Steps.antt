-- Each allowed entry keeps what is true of a legal log.
use Rattle.std.proofs.Common.{◌-◌, arith, ◌≡◌, ℕ, Bool, true, false, List, [], ◌∷◌, ◌++◌, length, map, Some, None, inl, inr, refl, sym, ap, ◌∙◌, subst, append-nil}
use Rattle.std.proofs.lemmas.List.{length-map}
use Rattle.std.specs.Prelude.{if◌then◌else◌, slice_get}
use Rattle.meaning.specs.Lists.{IsFirst}
use Rattle.meaning.specs.Values.{Value, Named, Outcome, Val, Birth, Put, results_of, Returned, outcome_at, Id}
use Rattle.meaning.specs.Syntax.{Script}
use Rattle.meaning.specs.Runs.{serial_end, serial_trace, Needs, Over, Piece, piece}
use Rattle.meaning.specs.Meaning.{run_birth}
use Rattle.meaning.specs.Births.{Bearing, birth_at, is_made_by, Part, part_of, part_at, numbered}
use Rattle.meaning.specs.Ids.{BirthIn, OutcomeIn, ValueIn, OutcomesIn, ValuesIn, ObjectsIn, StopIn}
use Rattle.meaning.specs.Readings.{Reading, read, read_outcome, read_birth, BirthsHold, den, IsBorn}
use Rattle.meaning.specs.Law.{gets_of, prints_of, get_after, StopsAs, Begins}
use Rattle.script_laws.proofs.Replay.{law_of_replay}
use Rattle.script_laws.proofs.Ids.{births_keep}
use Rattle.script_laws.proofs.Given.{born_by_piece, stop_by_piece}
use Rattle.meaning.proofs.BirthLaws.{at_test, first_is_made}
use Rattle.script_laws.proofs.Dens.{new_born}
use Rattle.event_log.specs.Entries.{Attempt, Fault, Entry, Born, Got, Printed, Ended, Faulted, main_attempt}
use Rattle.event_log.specs.Words.{same_attempt, births, born_in, own_births, own_in, Lack, Content, Lacking}
use Rattle.event_log.specs.Rules.{Setting, Replays, Stops, HasContent, MayBear, MayPrint, MayEnd, MayGet, MayFault}
use Rattle.event_log.proofs.WordLaws.{word_push, Deeds, deeds, deeds_in, join, nothing_done, deeds_push, join_nothing, deeds_parts, births_push, same_attempt-true}
use Rattle.meaning_laws.proofs.Traces.{first_more, whole_gets, whole_trace, prints_further, map_first}
use Rattle.meaning_laws.proofs.Good.{AllBorn, Told, Stands, Good, GoodLog, births_hold, objects_born, spec_named, end_at, end_in, outcome_in, result_at}
use Rattle.meaning_laws.proofs.Births.{good_birth, all_born, fresh}

map_append : {X Y : Type 0} (f : X → Y) (xs ys : List X) → map f (xs ++ ys) ≡ map f xs ++ map f ys
map_append f [] ys = refl
map_append f (x ∷ xs) ys = ap (λ zs. f x ∷ zs) (map_append f xs ys)

outcomes_append : (P : Id → Type 0) (cs : List Outcome) (c : Outcome) → OutcomesIn P cs → OutcomeIn P c → OutcomesIn P (cs ++ c ∷ [])
outcomes_append P [] c h k = (k, tt)
outcomes_append P (d ∷ cs) c h k = (h.0, outcomes_append P cs c h.1 k)

values_first : (P : Id → Type 0) (vs ws : List Value) → IsFirst vs ws → ValuesIn P ws → ValuesIn P vs
values_first P [] ws f h = tt
values_first P (v ∷ vs) [] f h = absurd f
values_first P (v ∷ vs) (w ∷ ws) f h = (subst (λ x. ValueIn P x) f.0 h.0, values_first P vs ws f.1 h.1)

all_append : (bs xs : List Bearing) (x : Bearing) → AllBorn bs xs → ((o : Id) → is_made_by x o ≡ true → part_at bs o ≡ Some (part_of x o)) → AllBorn bs (xs ++ x ∷ [])
all_append bs [] x h k = (k, tt)
all_append bs (y ∷ xs) x h k = (h.0, all_append bs xs x h.1 k)

-- an entry that bears nothing: each attempt stands as before with what the entry says of it
pub kept : (script : Script) (log : List Entry) (e : Entry) → born_in e ≡ [] → ((a : Attempt) → own_in a e ≡ []) → GoodLog script log →
    ((a : Attempt) → Stands script (births log) (birth_at (births log) a.object) (join (deeds a log) (deeds_in a e))) → GoodLog script (log ++ e ∷ [])
kept script log e nb mine g new =
    let same_births : births (log ++ e ∷ []) ≡ births log = births_push log e ∙ (ap (λ xs. births log ++ xs) nb ∙ append-nil (births log)) in
    let same_own = λ (a : Attempt). word_push (own_in a) log e ∙ (ap (λ xs. own_births a log ++ xs) (mine a) ∙ append-nil (own_births a log)) in
    subst (λ bs. Good script bs (λ a. own_births a (log ++ e ∷ [])) (λ a. deeds a (log ++ e ∷ []))) (sym same_births)
    (record {
      hold = g.hold;
      named = g.named;
      earlier = g.earlier;
      bound = g.bound;
      grouped = g.grouped;
      born = λ a. subst (λ xs. AllBorn (births log) xs) (sym (same_own a)) (g.born a);
      told = λ a. subst (λ d. Stands script (births log) (birth_at (births log) a.object) d) (sym (deeds_push a log e)) (new a);
    })

-- an entry that says nothing of an attempt
stands_still : (script : Script) (log : List Entry) (a : Attempt) → GoodLog script log → Stands script (births log) (birth_at (births log) a.object) (join (deeds a log) nothing_done)
stands_still script log a g = subst (λ d. Stands script (births log) (birth_at (births log) a.object) d) (sym (join_nothing (deeds a log))) (g.told a)

pub silent : (script : Script) (log : List Entry) (e : Entry) → born_in e ≡ [] → ((a : Attempt) → own_in a e ≡ []) → ((a : Attempt) → deeds_in a e ≡ nothing_done) → GoodLog script log → GoodLog script (log ++ e ∷ [])
silent script log e nb mine nd g = kept script log e nb mine g (λ a. subst (λ x. Stands script (births log) (birth_at (births log) a.object) (join (deeds a log) x)) (sym (nd a)) (stands_still script log a g))

-- an entry of one attempt
of_one : (script : Script) (log : List Entry) (b a : Attempt) (f : Bool → Deeds) → GoodLog script log → f false ≡ nothing_done →
    Stands script (births log) (birth_at (births log) b.object) (join (deeds b log) (f true)) →
    Stands script (births log) (birth_at (births log) a.object) (join (deeds a log) (f (same_attempt b a)))
of_one script log b a f g nf new =
    at_test (λ t. Stands script (births log) (birth_at (births log) a.object) (join (deeds a log) (f t))) (same_attempt b a)
    (λ e. subst (λ (x : Attempt). Stands script (births log) (birth_at (births log) x.object) (join (deeds x log) (f true))) (same_attempt-true b a e) new)
    (λ e. subst (λ x. Stands script (births log) (birth_at (births log) a.object) (join (deeds a log) x)) (sym nf) (stands_still script log a g))

module _ (s : Setting) (log : List Entry) (g : GoodLog s.script log) where
  abbrev script : Script
  script = s.script

  abbrev reading : Reading
  reading = den script (births log)

  -- what was told of an attempt that goes on
  told_of : (a : Attempt) (base : Id) (p : Piece) (h : Replays s log a base p) → Told script (births log) h.spec (deeds a log)
  told_of a base p h = subst (λ o. Stands script (births log) o (deeds a log)) h.born (g.told a)

  stands_as : (a : Attempt) (base : Id) (p : Piece) (h : Replays s log a base p) (d : Deeds) → Told script (births log) h.spec d → Stands script (births log) (birth_at (births log) a.object) d
  stands_as a base p h d t = subst (λ o. Stands script (births log) o d) (sym h.born) t

  -- the law of replay for an attempt whose births are logged
  replayed : (a : Attempt) (base : Id) (p : Piece) (h : Replays s log a base p) → own_births a log ≡ numbered base p.births →
      Begins reading (results_of h.spec) p (length (deeds a log).answers) (run_birth script (read_birth reading h.spec))
  replayed a base p h own =
      let t = told_of a base p h in
      let holds : BirthsHold reading script base p.births = births_hold script (births log) base p.births g.hold (subst (λ xs. AllBorn (births log) xs) own (g.born a)) in
      let answers = t.fits.answers in
      subst (λ q. BirthsHold reading script base q.births → Begins reading (results_of h.spec) q (length (deeds a log).answers) (run_birth script (read_birth reading h.spec))) (sym h.replayed)
      (λ holds'. law_of_replay script reading h.spec base (deeds a log).answers holds' answers) holds

  -- what it stops with and has printed names only what is born
  piece_in : (a : Attempt) (base : Id) (p : Piece) (h : Replays s log a base p) → own_births a log ≡ numbered base p.births →
      StopIn (IsBorn (births log)) p.stop × ValuesIn (IsBorn (births log)) p.prints
  piece_in a base p h own =
      let t = told_of a base p h in
      let objects = objects_born (births log) (numbered base p.births) (subst (λ xs. AllBorn (births log) xs) own (g.born a)) in
      let keeps = births_keep (IsBorn (births log)) script h.spec (spec_named script (births log) (λ b. own_births b log) (λ b. deeds b log) g a.object h.spec h.born) in
      subst (λ q. ObjectsIn (IsBorn (births log)) (numbered base q.births) → StopIn (IsBorn (births log)) q.stop × ValuesIn (IsBorn (births log)) q.prints) (sym h.replayed)
      (λ o. stop_by_piece (IsBorn (births log)) (results_of h.spec) (run_birth script h.spec) base (deeds a log).answers keeps t.answers_in o) objects

  no_faults : (a : Attempt) (base : Id) (p : Piece) (h : Replays s log a base p) → (deeds a log).answered ≡ map Content (deeds a log).answers
  no_faults a base p h =
      let t = told_of a base p h in
      t.order ∙ ap (λ fs. map Content (deeds a log).answers ++ map Lacking fs) h.faulted ∙ append-nil (map Content (deeds a log).answers)

  -- the deeds of an attempt that goes on, with what an entry adds
  joined : (a : Attempt) (base : Id) (p : Piece) (h : Replays s log a base p) (x : Deeds) →
      join (deeds a log) x ≡ record { answers = (deeds a log).answers ++ x.answers; answered = (deeds a log).answered ++ x.answered; prints = (deeds a log).prints ++ x.prints; ends = x.ends; faults = x.faults }
  joined a base p h x = deeds_parts _ _ _ _ _ _ _ _ _ _ refl refl refl (ap (λ es. es ++ x.ends) h.ended) (ap (λ fs. fs ++ x.faults) h.faulted)

  -- what the serial run gets next is what the id stands for
  gets_next : (a : Attempt) (y : Id) (h : Stops s log a (Needs (Named y))) →
      get_after (length (map (read_outcome reading) (deeds a log).answers)) (serial_trace (run_birth script (read_birth reading h.replays.spec))) ≡ Some (reading y)
  gets_next a y h =
      let run = run_birth script (read_birth reading h.replays.spec) in
      let b = replayed a h.base h.p h.replays h.own in
      let s : get_after (length (deeds a log).answers) (serial_trace run) ≡ Some (reading y) =
      subst (λ st. StopsAs reading (results_of h.replays.spec) st (get_after (length (deeds a log).answers) (serial_trace run)) (serial_end run)) h.stopped b.stop in
      subst (λ n. get_after n (serial_trace run) ≡ Some (reading y)) (sym (length-map (deeds a log).answers (read_outcome reading))) s

  -- what was put is what the id stands for
  put_is : (y : Id) (v : Value) → birth_at (births log) y ≡ Some (Put v) → reading y ≡ read_outcome reading (Val v)
  put_is y v h =
      let none_before : y.serial - y.serial ≡ 0 = omega arith in
      g.hold y _ (g.grouped.whole y y (Put v) h (first_is_made (record { object = y; birth = Put v }))) ∙ ap (λ i. outcome_at i (Returned (read reading v ∷ []))) none_before

  content_by : (y : Id) (p : Part) (number k : ℕ) (cs : List Outcome) (c : Outcome) → part_at (births log) y ≡ Some p → slice_get (deeds (record { object = p.born.object; number = number }) log).ends k ≡ Some cs → slice_get cs p.place ≡ Some c →
      Told script (births log) p.born.birth (deeds (record { object = p.born.object; number = number }) log) → (reading y ≡ read_outcome reading c) × OutcomeIn (IsBorn (births log)) c
  content_by y p number k cs c e f i t =
      let d = deeds (record { object = p.born.object; number = number }) log in
      let spec = p.born.birth in
      let run = run_birth script (read_birth reading spec) in
      let whole = end_at (results_of spec) run (map (read_outcome reading) d.answers) (map (read reading) d.prints) (map (read_outcome reading)) d.ends k cs t.fits.ended f in (
        g.hold y p e ∙ result_at (read_outcome reading) (results_of spec) (serial_end run) cs p.place c whole.2 i,
        outcome_in (IsBorn (births log)) cs p.place c (end_in (IsBorn (births log)) d.ends k cs t.ends_in f) i,
      )

  -- a content of an object is what its id stands for
  pub content_is : (y : Id) (c : Outcome) → HasContent log y c → (reading y ≡ read_outcome reading c) × OutcomeIn (IsBorn (births log)) c
  content_is y c (inl h) =
      (put_is y h.0 h.1 ∙ ap (λ d. read_outcome reading d) (sym h.2), subst (λ d. OutcomeIn (IsBorn (births log)) d) (sym h.2) (spec_named script (births log) (λ b. own_births b log) (λ b. deeds b log) g y (Put h.0) h.1))
  content_is y c (inr h) =
      let a : Attempt = record { object = h.part.born.object; number = h.number } in
      let told = subst (λ o. Stands script (births log) o (deeds a log)) (g.grouped.firsts y h.part h.born) (g.told a) in
      content_by y h.part h.number h.ended.0 h.contents c h.born h.ended.1 h.content told

  pub got : (a : Attempt) (y : Id) (c : Outcome) → MayGet s log a y c → GoodLog script (log ++ Got a y c ∷ [])
  got a y c h = kept script log (Got a y c) refl (λ _. refl) g (λ b. of_one script log a b
      (λ t. record { answers = if t then c ∷ [] else []; answered = if t then Content c ∷ [] else []; prints = []; ends = []; faults = [] }) g refl
      (let r = h.needs.replays in stands_as a h.needs.base h.needs.p r _ (subst (λ d. Told script (births log) r.spec d) (sym (joined a h.needs.base h.needs.p r (record { answers = c ∷ []; answered = Content c ∷ []; prints = []; ends = []; faults = [] }))) new)))
    where
      new : Told script (births log) h.needs.replays.spec (record { answers = (deeds a log).answers ++ c ∷ []; answered = (deeds a log).answered ++ Content c ∷ []; prints = (deeds a log).prints ++ []; ends = []; faults = [] })
      new =
          let r = h.needs.replays in
          let t = told_of a h.needs.base h.needs.p r in
          let k = content_is y c h.content in
          let d = deeds a log in
          let ro = read_outcome reading in
          let run = run_birth script (read_birth reading r.spec) in
          subst (λ vs. Told script (births log) r.spec (record { answers = d.answers ++ c ∷ []; answered = d.answered ++ Content c ∷ []; prints = vs; ends = []; faults = [] })) (sym (append-nil d.prints))
          (record {
            answers_in = outcomes_append (IsBorn (births log)) d.answers c t.answers_in k.1;
            prints_in = t.prints_in;
            ends_in = tt;
            faults_in = tt;
            order = ap (λ xs. xs ++ Content c ∷ []) (no_faults a h.needs.base h.needs.p r) ∙ sym (map_append Content d.answers (c ∷ [])) ∙ sym (append-nil (map Content (d.answers ++ c ∷ [])));
            fits = record {
              answers = subst (λ cs. IsFirst cs (gets_of (serial_trace run))) (sym (map_append ro d.answers (c ∷ []))) (first_more (map ro d.answers) (serial_trace run) (ro c) t.fits.answers (gets_next a y h.needs ∙ ap (λ x. Some x) k.0));
              prints = t.fits.prints;
              ended = tt;
              faulted = tt;
            };
          })

  pub faulted : (a : Attempt) (y : Id) (f : Fault) → MayFault s log a y f → GoodLog script (log ++ Faulted a y f ∷ [])
  faulted a y f h = kept script log (Faulted a y f) refl (λ _. refl) g (λ b. of_one script log a b
      (λ t. record { answers = []; answered = if t then Lacking (record { object = y; fault = f }) ∷ [] else []; prints = []; ends = []; faults = if t then record { object = y; fault = f } ∷ [] else [] }) g refl
      (let r = h.needs.replays in stands_as a h.needs.base h.needs.p r _ (subst (λ d. Told script (births log) r.spec d) (sym (joined a h.needs.base h.needs.p r (record { answers = []; answered = Lacking (record { object = y; fault = f }) ∷ []; prints = []; ends = []; faults = record { object = y; fault = f } ∷ [] }))) new)))
    where
      new : Told script (births log) h.needs.replays.spec (record { answers = (deeds a log).answers ++ []; answered = (deeds a log).answered ++ Lacking (record { object = y; fault = f }) ∷ []; prints = (deeds a log).prints ++ []; ends = []; faults = record { object = y; fault = f } ∷ [] })
      new =
          let r = h.needs.replays in
          let t = told_of a h.needs.base h.needs.p r in
          let d = deeds a log in
          let x : Lack = record { object = y; fault = f } in
          let i : StopIn (IsBorn (births log)) (Needs (Named y)) = subst (λ s. StopIn (IsBorn (births log)) s) h.needs.stopped (piece_in a h.needs.base h.needs.p r h.needs.own).0 in
          subst (λ cs. Told script (births log) r.spec (record { answers = cs; answered = d.answered ++ Lacking x ∷ []; prints = d.prints ++ []; ends = []; faults = x ∷ [] })) (sym (append-nil d.answers))
          (subst (λ vs. Told script (births log) r.spec (record { answers = d.answers; answered = d.answered ++ Lacking x ∷ []; prints = vs; ends = []; faults = x ∷ [] })) (sym (append-nil d.prints))
          (record {
            answers_in = t.answers_in;
            prints_in = t.prints_in;
            ends_in = tt;
            faults_in = (i, tt);
            order = ap (λ xs. xs ++ Lacking x ∷ []) (no_faults a h.needs.base h.needs.p r);
            fits = record {
              answers = t.fits.answers;
              prints = t.fits.prints;
              ended = tt;
              faulted = gets_next a y h.needs;
            };
          }))

  pub ended : (a : Attempt) (c : List Outcome) → MayEnd s log a c → GoodLog script (log ++ Ended a c ∷ [])
  ended a c h = kept script log (Ended a c) refl (λ _. refl) g (λ b. of_one script log a b
      (λ t. record { answers = []; answered = []; prints = []; ends = if t then c ∷ [] else []; faults = [] }) g refl
      (let r = h.stops.replays in stands_as a h.stops.base h.stops.p r _ (subst (λ d. Told script (births log) r.spec d) (sym (joined a h.stops.base h.stops.p r (record { answers = []; answered = []; prints = []; ends = c ∷ []; faults = [] }))) new)))
    where
      new : Told script (births log) h.stops.replays.spec (record { answers = (deeds a log).answers ++ []; answered = (deeds a log).answered ++ []; prints = (deeds a log).prints ++ []; ends = c ∷ []; faults = [] })
      new =
          let r = h.stops.replays in
          let t = told_of a h.stops.base h.stops.p r in
          let d = deeds a log in
          let ro = read_outcome reading in
          let run = run_birth script (read_birth reading r.spec) in
          let n = length d.answers in
          let b = replayed a h.stops.base h.stops.p r h.stops.own in
          let i : StopIn (IsBorn (births log)) (Over c) = subst (λ s. StopIn (IsBorn (births log)) s) h.stops.stopped (piece_in a h.stops.base h.stops.p r h.stops.own).0 in
          let s : StopsAs reading (results_of r.spec) (Over c) (get_after n (serial_trace run)) (serial_end run) = subst (λ st. StopsAs reading (results_of h.stops.replays.spec) st (get_after n (serial_trace run)) (serial_end run)) h.stops.stopped b.stop in
          let last : get_after (length (map ro d.answers)) (serial_trace run) ≡ None = subst (λ m. get_after m (serial_trace run) ≡ None) (sym (length-map d.answers ro)) s.0 in
          let all_printed : prints_of (serial_trace run) ≡ map (read reading) d.prints =
          ap prints_of (sym (whole_trace n (serial_trace run) s.0)) ∙ sym b.prints ∙ ap (λ vs. map (read reading) vs) (sym h.stops.prints) in
          subst (λ cs. Told script (births log) r.spec (record { answers = cs; answered = d.answered ++ []; prints = d.prints ++ []; ends = c ∷ []; faults = [] })) (sym (append-nil d.answers))
          (subst (λ xs. Told script (births log) r.spec (record { answers = d.answers; answered = xs; prints = d.prints ++ []; ends = c ∷ []; faults = [] })) (sym (append-nil d.answered))
          (subst (λ vs. Told script (births log) r.spec (record { answers = d.answers; answered = d.answered; prints = vs; ends = c ∷ []; faults = [] })) (sym (append-nil d.prints))
          (record {
            answers_in = t.answers_in;
            prints_in = t.prints_in;
            ends_in = (i, tt);
            faults_in = tt;
            order = no_faults a h.stops.base h.stops.p r ∙ sym (append-nil (map Content d.answers));
            fits = record {
              answers = t.fits.answers;
              prints = t.fits.prints;
              ended = ((whole_gets (map ro d.answers) (serial_trace run) t.fits.answers last, all_printed, s.1), tt);
              faulted = tt;
            };
          })))

  pub printed : (v : Value) → MayPrint s log v → GoodLog script (log ++ Printed v ∷ [])
  printed v h = kept script log (Printed v) refl (λ _. refl) g (λ b. of_one script log main_attempt b
      (λ t. record { answers = []; answered = []; prints = if t then v ∷ [] else []; ends = []; faults = [] }) g refl
      (let r = h.replays in stands_as main_attempt h.base h.p r _ (subst (λ d. Told script (births log) r.spec d) (sym (joined main_attempt h.base h.p r (record { answers = []; answered = []; prints = v ∷ []; ends = []; faults = [] }))) new)))
    where
      new : Told script (births log) h.replays.spec (record { answers = (deeds main_attempt log).answers ++ []; answered = (deeds main_attempt log).answered ++ []; prints = (deeds main_attempt log).prints ++ v ∷ []; ends = []; faults = [] })
      new =
          let r = h.replays in
          let t = told_of main_attempt h.base h.p r in
          let d = deeds main_attempt log in
          let run = run_birth script (read_birth reading r.spec) in
          let b = replayed main_attempt h.base h.p r h.own in
          let n = length d.answers in
          let i = (piece_in main_attempt h.base h.p r h.own).1 in
          subst (λ cs. Told script (births log) r.spec (record { answers = cs; answered = d.answered ++ []; prints = d.prints ++ v ∷ []; ends = []; faults = [] })) (sym (append-nil d.answers))
          (subst (λ xs. Told script (births log) r.spec (record { answers = d.answers; answered = xs; prints = d.prints ++ v ∷ []; ends = []; faults = [] })) (sym (append-nil d.answered))
          (record {
            answers_in = t.answers_in;
            prints_in = values_first (IsBorn (births log)) (d.prints ++ v ∷ []) h.p.prints h.prints i;
            ends_in = tt;
            faults_in = tt;
            order = no_faults main_attempt h.base h.p r ∙ sym (append-nil (map Content d.answers));
            fits = record {
              answers = t.fits.answers;
              prints = prints_further (map (read reading) (d.prints ++ v ∷ [])) n (serial_trace run)
                  (subst (λ ws. IsFirst (map (read reading) (d.prints ++ v ∷ [])) ws) b.prints (map_first (read reading) (d.prints ++ v ∷ []) h.p.prints h.prints));
              ended = tt;
              faulted = tt;
            };
          }))

  pub born : (o : Id) (a : Attempt) (b : Birth) → MayBear s log o a b → GoodLog script (log ++ Born o a b ∷ [])
  born o a b h =
      let x : Bearing = record { object = o; birth = b } in
      let bs = births log in
      let r = h.replays in
      let t = told_of a h.base h.p r in
      let keeps = births_keep (IsBorn bs) script r.spec (spec_named script (births log) (λ b'. own_births b' log) (λ b'. deeds b' log) g a.object r.spec r.born) in
      let own : IsFirst (own_births a log ++ x ∷ []) (numbered h.base (piece (results_of r.spec) (run_birth script r.spec) h.base (deeds a log).answers).births) =
      subst (λ (q : Piece). IsFirst (own_births a log ++ x ∷ []) (numbered h.base q.births)) r.replayed h.own in
      let named : BirthIn (IsBorn bs) b =
      born_by_piece (IsBorn bs) (results_of r.spec) (run_birth script r.spec) h.base (deeds a log).answers (own_births a log) x keeps t.answers_in (objects_born bs (own_births a log) (g.born a)) own in
      let new = good_birth script bs x (λ a'. own_births a' log) (λ a'. deeds a' log) g h.next named in
      let more = all_born script bs x (λ a'. own_births a' log) (λ a'. deeds a' log) g h.next named in
      let here = new_born script bs x (fresh script bs x (λ a'. own_births a' log) (λ a'. deeds a' log) g h.next named) in
      subst (λ cs. Good script cs (λ a'. own_births a' (log ++ Born o a b ∷ [])) (λ a'. deeds a' (log ++ Born o a b ∷ []))) (sym (births_push log (Born o a b)))
      (record {
        hold = new.hold;
        named = new.named;
        earlier = new.earlier;
        bound = new.bound;
        grouped = new.grouped;
        born = λ a'. subst (λ xs. AllBorn (bs ++ x ∷ []) xs) (sym (word_push (own_in a') log (Born o a b)))
            (at_test (λ q. AllBorn (bs ++ x ∷ []) (own_births a' log ++ (if q then x ∷ [] else []))) (same_attempt a a')
            (λ _. all_append (bs ++ x ∷ []) (own_births a' log) x (more (own_births a' log) (g.born a')) here)
            (λ _. subst (λ xs. AllBorn (bs ++ x ∷ []) xs) (sym (append-nil (own_births a' log))) (more (own_births a' log) (g.born a'))));
        told = λ a'. subst (λ d. Stands script (bs ++ x ∷ []) (birth_at (bs ++ x ∷ []) a'.object) d) (sym (deeds_push a' log (Born o a b) ∙ join_nothing (deeds a' log))) (new.told a');
      })

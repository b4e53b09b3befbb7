-- A birth is logged, and all its objects come into the owner's table at once: what the owner knows then.
use Rattle.std.proofs.Common.{◌≡◌, ℕ, zero, suc, ◌+◌, ◌-◌, ◌<◌, ◌≤◌, true, false, List, [], ◌∷◌, ◌++◌, length, Option, Some, None, inl, inr, refl, sym, ap, ◌∙◌, subst, arith, append-nil}
use Rattle.std.specs.Prelude.{◌==◌, ◌||◌, slice_get, ◌⊎◌, if◌then◌else◌}
use Rattle.std.specs.List.{flat_map, list_any, AllByRecursion}
use Rattle.std.proofs.lemmas.Bool.Decides.{nat_tests}
use Rattle.std.proofs.lemmas.List.{length-append}
use Rattle.meaning.specs.Values.{Value, Birth, Put, others_of, results_of, Id}
use Rattle.meaning.specs.Runs.{past as past_ids}
use Rattle.meaning.specs.Births.{Bearing, birth_at, same_id, is_made_by, numbered, Part, part_of, part_at, IsNew}
use Rattle.meaning.proofs.BirthLaws.{at_test, same_id-refl, or_else, birth_at-push, first_is_made, is_made, made_from, made_owner, part_new}
use Rattle.kind_laws.specs.of_event_log.Entries.{Attempt, Entry, Born}
use Rattle.kind_laws.specs.of_event_log.Words.{attempt, same_attempt, births, next_serial, own_in, own_births, printed_in, bearer_in, bearers_of, run_in, worker_of, got_in, ended_in, faulted_in, resolved_in, released_in}
use Rattle.kind_laws.specs.of_event_log.Breaks.{Among}
use Rattle.kind_laws.specs.of_event_log.Extends.{Extends}
use Rattle.kind_laws.specs.of_event_log.Fresh.{FreshIsUnknown}
use Rattle.kind_laws.specs.of_event_log.Holding.{HasId, InBirth, ids_of_birth}
use Rattle.kind_laws.specs.of_event_log.Rules.{Setting, MayBear}
use Rattle.kind_laws.specs.of_event_log.Sane.{Sane}
use Rattle.kind_laws.proofs.of_event_log.OwnLaws.{told-plain}
use Rattle.kind_laws.proofs.of_event_log.FreshLaws.{born_if_first}
use Rattle.kind_laws.proofs.of_event_log.WordLaws.{word_push, births_push, next_serial-push, same_attempt-true, same_attempt-refl}
use Rattle.values.specs.Listed.{each_once}
use Rattle.step_laws.specs.of_protocol.Numbered.{item_at}
use Rattle.step_laws.specs.Counting.{item_of}
use Rattle.step_laws.proofs.Lists.{joined_cases}
use Rattle.step_laws.specs.of_protocol.Sets.{object_id}
use Rattle.step_laws.specs.of_protocol.Tables.{ObjectSource, WasPut, ByTask, Beside, Object, OwnTask, Ready, Execution, Worker, first_by, task_of}
use Rattle.step_laws.specs.of_protocol.Events.{objects_made}
use Rattle.protocol_legal.specs.Past.{Asking, Past, past, asking, WasAskedAt}
use Rattle.protocol_legal.specs.Grows.{Grows}
use Rattle.protocol_legal.specs.Knows.{GoesOn, KnowsTask, listed, once, IsPartOf, IsRow, IsTask, IsUntouched, KnowsSource, KnowsObject, KnowsPhase, KnowsResult, KnowsRun, KnowsWorker}
use Rattle.protocol_legal.specs.Names.{IsDeadIfAny}
use Rattle.protocol_legal.specs.Whole.{IsCalm}
use Rattle.protocol_legal.proofs.Names.{all_among, all_have_grows, all_once}
use Rattle.protocol_legal.proofs.Numbers.{item-append, item-bounds}
use Rattle.protocol_legal.proofs.Breaking.{among_of, among_one, among_right, among_here}
use Rattle.protocol_legal.proofs.Growing.{grows_by, word_kept, birth_grows, home_grows, runs_grows, extends}
use Rattle.protocol_legal.proofs.Keeping.{RowsStay, RunStays, object_quiet}
use Rattle.protocol_legal.proofs.Calm.{untouched_more}
use Rattle.protocol_legal.proofs.BornRows.{asks_of_task, first_there, item_behind, made-append, numbered-append, one_or_repeated, only_item, put_row, repeated-length, repeated_behind, task_row, task_rows}

one_if_same : (n r : ℕ) → ◌≡◌ {A = ℕ} (if n == n then r else 0) r
one_if_same n r = let e : (n == n) ≡ true = grind (arith, nat_tests) in ap {B = ℕ} (λ t. if t then r else 0) e

-- an attempt that is listed is another one than those that aren't
unlisted : (a b : Attempt) (bs : List Attempt) → list_any (λ c. same_attempt c a) bs ≡ true → list_any (λ c. same_attempt c b) bs ≡ false → same_attempt a b ≡ false
unlisted a b bs e d =
    at_test (λ t. same_attempt a b ≡ t → t ≡ false) (same_attempt a b)
    (λ t h. let f : list_any (λ c. same_attempt c a) bs ≡ list_any (λ c. same_attempt c b) bs = ap (λ z. list_any (λ c. same_attempt c z) bs) (same_attempt-true a b h) in absurd (cc)) (λ t h. refl) refl

same_ids : {i j m n : ℕ} → i ≡ j → m ≡ n → object_id i m ≡ object_id j n
same_ids e f = cc

-- the first object of an owner's object stands in its table
first_within : (p : Past) (home : ℕ) (xs : List Object) (o : Id) (x : Object) (m : ObjectSource) → item_at xs o.serial ≡ Some x → KnowsSource p home xs o x m → first_by o.serial m < 1 + length xs
first_within p home xs o x WasPut i k = (item-bounds xs o.serial x i).1
first_within p home xs o x (ByTask task) i k = (item-bounds xs o.serial x i).1
first_within p home xs o x (Beside n) i k = at_row (item_at xs n) refl k.1
  where
    at_row : (r : Option Object) → item_at xs n ≡ r → task_of r ≡ Some k.0 → n < 1 + length xs
    at_row None e f = absurd (cc)
    at_row (Some z) e f = (item-bounds xs n z e).1

-- the rows that there were stay
rows_before : (xs ys : List Object) → RowsStay (λ n. Unit {0}) xs (xs ++ ys)
rows_before xs ys = record {
  rows = λ k z i _. (z, item-append xs ys k z i, refl, refl);
  wanted = λ k task _ _ _ v. record { place = v.place; within = v.within; object = v.object; there = item-append xs ys (k + v.place) v.object v.there; first = v.first; wanted = v.wanted };
}

abbrev pub bearing : Id → Birth → Bearing
bearing o b = record { object = o; birth = b }

abbrev pub with_birth : Execution → Birth → Execution
with_birth run b = record run { births = run.births ++ b ∷ [] }

abbrev pub with_born : Worker → Execution → Birth → List Object → Worker
with_born x run b obs = record x { objects = x.objects ++ obs; run = Some (with_birth run b) }

-- what comes next was not born before
pub part_unborn : (bs : List Bearing) (z : Id) → ((part : Part) → part_at bs z ≡ Some part → z.serial < next_serial z.owner bs) → next_serial z.owner bs ≤ z.serial → part_at bs z ≡ None
part_unborn bs z below next = go (part_at bs z) refl
  where
    go : (r : Option Part) → part_at bs z ≡ r → part_at bs z ≡ None
    go None e = e
    go (Some part) e = let l = below part e in absurd (omega (arith, l, next))

pub birth_unborn : (bs : List Bearing) (o : Id) → part_at bs o ≡ None → birth_at bs o ≡ None
birth_unborn bs o none = go (birth_at bs o) refl
  where
    go : (r : Option Birth) → birth_at bs o ≡ r → birth_at bs o ≡ None
    go None e = e
    go (Some b) e = let h = born_if_first bs o b e in let f = h.1 in absurd (cc)

module _ (s : Setting) (log : List Entry) (asked : List Asking) (w : ℕ) (x : Worker) (run : Execution) (b : Birth) (sane : Sane log) (calm : IsCalm (past log asked)) (h : KnowsWorker s (past log asked) w x)
    (is : x.run ≡ Some run) (ready : run.phase ≡ Ready) (fresh : (z : Id) → next_serial z.owner (births log) ≤ z.serial → FreshIsUnknown log z) (bear : MayBear s log (object_id w (length x.objects + 1)) run.attempt b) where
  abbrev pub o : Id
  o = object_id w (length x.objects + 1)

  abbrev pub born : Entry
  born = Born o run.attempt b

  abbrev p : Past
  p = past log asked

  abbrev q : List Asking → Past
  q news = past (log ++ born ∷ []) (asked ++ news)

  abbrev g : (news : List Asking) → Grows p (q news)
  g news = grows_by s log asked news born refl bear

  next_is : o.serial ≡ next_serial o.owner (births log)
  next_is = sym h.serial

  -- no object of the birth was born before
  new_parts : IsNew (births log) (bearing o b)
  new_parts z made =
      let from : o.serial ≤ z.serial = made_from (bearing o b) z made in
      let next : o.serial ≡ next_serial z.owner (births log) = next_is ∙ ap (λ v. next_serial v (births log)) (made_owner (bearing o b) z made) in
      part_unborn (births log) z (λ part e. sane.serials z (part, e)) (omega (arith, from, next))

  unborn_before : birth_at (births log) o ≡ None
  unborn_before = birth_unborn (births log) o (new_parts o (first_is_made (bearing o b)))

  births_now : births (log ++ born ∷ []) ≡ births log ++ bearing o b ∷ []
  births_now = births_push log born

  pub born_now : birth_at (births (log ++ born ∷ [])) o ≡ Some b
  born_now =
      ap (λ bs. birth_at bs o) births_now ∙ birth_at-push (births log) (bearing o b) o
      ∙ ap (λ r. or_else r (if same_id o o then Some b else None)) unborn_before ∙ ap (λ t. if t then Some b else None) (same_id-refl o)

  born_part : (z : Id) → is_made_by (bearing o b) z ≡ true → part_at (births (log ++ born ∷ [])) z ≡ Some (part_of (bearing o b) z)
  born_part z made = ap (λ bs. part_at bs z) births_now ∙ part_new (births log) (bearing o b) new_parts z made

  k : KnowsRun s log w x run
  k = h.run run is

  goes : GoesOn log x run
  goes = subst (KnowsPhase s log x run) ready k.phase

  kept : {X : Type 0} (f : Entry → List X) → f born ≡ [] → flat_map f (log ++ born ∷ []) ≡ flat_map f log
  kept f e = word_kept f log (born ∷ []) (ap (λ xs. xs ++ []) e)

  -- ---- the owner, once it has the objects

  module _ (news : List Asking) (obs : List Object) where
    abbrev pub then_ : Worker
    then_ = with_born x run b obs

    stays : RunStays p (q news) (g news) x then_
    stays r e = let f : run ≡ r = cc in inr (with_birth run b, refl, ap (λ (z : Execution). z.attempt) f)

    module _ (all : length obs ≡ results_of b) where
      longer : length (x.objects ++ obs) ≡ length x.objects + results_of b
      longer = length-append x.objects obs ∙ ap (λ i. length x.objects + i) all

      run_born : KnowsRun s (log ++ born ∷ []) w then_ (with_birth run b)
      run_born = record {
        runs = runs_grows p (q news) (g news) run.attempt w k.runs;
        listed = k.listed;
        spec = birth_grows p (q news) (g news) run.attempt.object run.spec k.spec;
        base = k.base;
        own =
            let e1 = goes.next in
            let e : past_ids run.base (objects_made run.births) ≡ o = same_ids k.base (sym e1) in
            word_push (own_in run.attempt) log born ∙ ap (λ t. own_births run.attempt log ++ (if t then bearing o b ∷ [] else [])) (same_attempt-refl run.attempt)
            ∙ ap (λ xs. xs ++ bearing o b ∷ []) k.own ∙ ap (λ z. numbered run.base run.births ++ bearing z b ∷ []) (sym e) ∙ sym (numbered-append run.base run.births (b ∷ []));
        prints = kept (printed_in run.attempt) refl ∙ k.prints;
        answers = kept (got_in run.attempt) refl ∙ k.answers;
        phase = subst (KnowsPhase s (log ++ born ∷ []) then_ (with_birth run b)) (sym ready) goes_later;
        over = k.over;
        holds = all_have_grows p (q news) (g news) run.holds k.holds;
      }
        where
          goes_later : GoesOn (log ++ born ∷ []) then_ (with_birth run b)
          goes_later =
              let e = goes.next in
              let l = longer in
              let m = made-append run.births (b ∷ []) in
              record {
                ended = kept (ended_in run.attempt) refl ∙ goes.ended;
                faulted = kept (faulted_in run.attempt) refl ∙ goes.faulted;
                next = omega (arith, e, l, m);
              }

      serial_now : next_serial w (births (log ++ born ∷ [])) ≡ length (x.objects ++ obs) + 1
      serial_now =
          let e : next_serial w (births (log ++ born ∷ [])) ≡ next_serial w (births log) + (if w == w then results_of b else 0) = ap (next_serial w) births_now ∙ next_serial-push w (births log) (bearing o b) in
          let i = one_if_same w (results_of b) in
          let j = h.serial in
          let l = longer in
          omega (arith, e, i, j, l)

      strangers_now : (a : Attempt) → worker_of a (log ++ born ∷ []) ≡ Some w → list_any (λ c. same_attempt c a) x.began ≡ false → IsUntouched (log ++ born ∷ []) a
      strangers_now a e l =
          untouched_more log born a
          (let d : same_attempt run.attempt a ≡ false = unlisted run.attempt a x.began k.listed l in
          record { own = ap (λ t. (if t then bearing o b ∷ [] else []) ++ []) d; prints = refl; answers = refl; ended = refl; faulted = refl })
          (h.strangers a (sym (ap (λ ws. slice_get ws a.number) (kept (run_in a.object) refl)) ∙ e) l)

      pub bears_worker : ((i n j : ℕ) → (i ≡ length x.objects + 1 → ⊥) → WasAskedAt (q news) (attempt (object_id w i) n) j → WasAskedAt p (attempt (object_id w i) n) j) →
          ((m : ℕ) (z : Object) → item_of (1 + length x.objects) obs m ≡ Some z → KnowsObject (q news) then_ (object_id w m) z) → KnowsWorker s (q news) w then_
      bears_worker older new =
          let e : Extends log (log ++ born ∷ []) = extends p (q news) (g news) in
          record {
            home = home_grows p (q news) (g news) w x.node h.home;
            serial = serial_now;
            told = λ v. told-plain log born w v refl ∙ h.told v;
            dead = λ v d. e.kills v (h.dead v d);
            dead_nodes = λ n d. e.node_kills n (h.dead_nodes n d);
            objects = λ i z e'. each i z e';
            run = λ r e'. let f : with_birth run b ≡ r = cc in subst (KnowsRun s (log ++ born ∷ []) w then_) f run_born;
            strangers = strangers_now;
            passed_on = all_have_grows p (q news) (g news) x.passed_on h.passed_on;
          }
        where
          each : (i : ℕ) (z : Object) → item_at (x.objects ++ obs) i ≡ Some z → KnowsObject (q news) then_ (object_id w i) z
          each i z e' = elim (joined_cases x.objects obs i z e') [
            | inl old ↦ let ko = h.objects i z old in
                let l = first_within p x.node x.objects (object_id w i) z z.source old ko.source in
                object_quiet p (q news) (g news) (λ n. Unit {0}) x then_ i w z old (rows_before x.objects obs) tt
                (record { runs = refl; accepts = λ j. refl; asked = λ n j d. older (first_by i z.source) n j (λ f. omega (arith, l, f)) d })
                (record { resolves = refl; releases = refl }) refl stays ko
            | inr new' ↦ new i z new'
          ]

    -- ---- a new object

    -- it is one of the birth's
    module _ (m : ℕ) (low : o.serial ≤ m) (high : m < o.serial + results_of b) where
      abbrev z : Id
      z = object_id w m

      is_new : is_made_by (bearing o b) z ≡ true
      is_new = is_made (bearing o b) z refl low high

      unknown : FreshIsUnknown log z
      unknown = let next = next_is in fresh z (omega (arith, next, low))

      not_yet : {X : Type 0} (f : Entry → List X) → f born ≡ [] → flat_map f log ≡ [] → flat_map f (log ++ born ∷ []) ≡ []
      not_yet f e none = kept f e ∙ none

      -- the ids in the birth
      pub names_now : AllByRecursion (λ y. HasId (log ++ born ∷ []) z y) (each_once (ids_of_birth b))
      names_now = all_once (λ y. HasId (log ++ born ∷ []) z y) (ids_of_birth b) (all_among (λ y. HasId (log ++ born ∷ []) z y) (ids_of_birth b) (λ y n. InBirth (part_of (bearing o b) z) (born_part z is_new) n))

      pub part_now : (i : ℕ) → m ≡ o.serial + i → IsPartOf (log ++ born ∷ []) z o b i
      part_now i e = let f : m - o.serial ≡ i = omega (arith, e) in born_part z is_new ∙ ap (λ (n : ℕ). Some (record { born = bearing o b; place = n })) f

      -- nothing is known of it yet but how it is made
      pub new_known : (ob : Object) → ob.bearer ≡ run.attempt → ob.fault ≡ None → ob.is_released ≡ false → ob.added ≡ [] → ob.dead_holder ≡ None → ob.ids ≡ each_once (ids_of_birth b) →
          KnowsSource (q news) x.node then_.objects z ob ob.source → KnowsObject (q news) then_ z ob
      new_known ob eb ef er ea ed ei source = record {
        bearer = subst (λ a. Among a (bearers_of z (log ++ born ∷ []))) (sym eb)
            (subst (Among run.attempt) (sym (word_push (bearer_in z) log born ∙ ap (λ t. bearers_of z log ++ (if t then run.attempt ∷ [] else [])) is_new))
            (among_right run.attempt (bearers_of z log) (run.attempt ∷ []) (among_here run.attempt [])));
        stopped = inr (with_birth run b, refl, sym eb);
        resolved = not_yet (resolved_in z) refl unknown.unresolved ∙ ap listed (sym ef);
        known = λ f i. absurd (cc);
        released = not_yet (released_in z) refl unknown.unreleased ∙ ap (λ r. once r z) (sym er);
        source = source;
        names = record {
          ids = subst (AllByRecursion (λ y. HasId (log ++ born ∷ []) z y)) (sym ei) names_now;
          holders = subst (AllByRecursion (λ y. HasId (log ++ born ∷ []) y z)) (sym ea) tt;
          dead = subst (λ d. IsDeadIfAny (log ++ born ∷ []) z d) (sym ed) tt;
        };
      }

  -- ---- what was put

  abbrev put_now : Object
  put_now = put_row run.attempt x.node b

  pub puts_worker : (v : Value) → b ≡ Put v → KnowsWorker s (q []) w (with_born x run b (put_now ∷ []))
  puts_worker v e =
      let one : ◌≡◌ {A = ℕ} 1 (results_of b) = ap results_of (sym e) in
      bears_worker [] (put_now ∷ []) one
      (λ i n j apart d. subst (Among (asking (attempt (object_id w i) n) j)) (append-nil asked) d)
      (λ m z i.
      let r = only_item (1 + length x.objects) put_now m z i in
      let at : o.serial ≡ m = (let t = r.0 in omega (arith, t)) in
      subst (λ n. KnowsObject (q []) (then_ [] (put_now ∷ [])) (object_id w n) z) at
      (subst (KnowsObject (q []) (then_ [] (put_now ∷ [])) o) r.1 (known_put v e)))
    where
      known_put : (v : Value) → b ≡ Put v → KnowsObject (q []) (then_ [] (put_now ∷ [])) o put_now
      known_put v e =
          let low : o.serial ≤ o.serial = omega arith in
          let high : o.serial < o.serial + results_of b = omega arith in
          let place : o.serial ≡ o.serial + 0 = omega arith in
          new_known [] (put_now ∷ []) o.serial low high put_now refl refl refl refl refl refl (record {
            value = v;
            born = born_now ∙ ap Some e;
            part = subst (λ c. IsPartOf (log ++ born ∷ []) o o c 0) e (part_now [] (put_now ∷ []) o.serial low high 0 place);
            unbegun = kept (run_in o) refl ∙ (unknown [] (put_now ∷ []) o.serial low high).unbegun;
            settled = refl;
            stored = refl;
            placed = λ f r. inl (let t : (x.node == x.node) ≡ true = grind (arith, nat_tests) in ap (λ c. c || false) t);
          })

  -- ---- a task that is asked for

  abbrev pub asked_now : List Asking
  asked_now = asking (attempt o 0) (length (log ++ born ∷ [])) ∷ []

  abbrev pub asks : OwnTask
  asks = asks_of_task b x.node

  abbrev row_of : ObjectSource → Object
  row_of source = task_row run.attempt b source

  -- the first has the task, the others stand beside
  abbrev rows : List Object
  rows = task_rows run.attempt x.node o.serial b

  abbrev there_ : Worker
  there_ = then_ asked_now rows

  unborn_unasked : (n j : ℕ) → WasAskedAt p (attempt o n) j → ⊥
  unborn_unasked n j a = let r = calm.asked (attempt o n) j a in let e = r.1 in let f = unborn_before in absurd (cc)

  first_row : item_at there_.objects o.serial ≡ Some (row_of (ByTask asks))
  first_row =
      let e : ◌≡◌ {A = ℕ} (1 + length x.objects) o.serial = omega arith in
      item_behind x.objects rows o.serial (row_of (ByTask asks)) (subst (λ n. item_of n rows o.serial ≡ Some (row_of (ByTask asks))) (sym e) (first_there o.serial (others_of b) (row_of (ByTask asks)) (row_of (Beside o.serial))))

  other_row : (m : ℕ) → o.serial < m → m < o.serial + results_of b → item_at there_.objects m ≡ Some (row_of (Beside o.serial))
  other_row m low high =
      let e : ◌≡◌ {A = ℕ} (1 + length x.objects) o.serial = omega arith in
      item_behind x.objects rows m (row_of (Beside o.serial)) (subst (λ n. item_of n rows m ≡ Some (row_of (Beside o.serial))) (sym e) (repeated_behind o.serial (others_of b) (row_of (ByTask asks)) (row_of (Beside o.serial)) m low high))

  row_there : (i : ℕ) → i < results_of b → IsRow there_.objects o.serial (o.serial + i) false
  row_there zero l =
      let e : ◌≡◌ {A = ℕ} (o.serial + 0) o.serial = omega arith in
      record { object = row_of (ByTask asks); there = ap (item_at there_.objects) e ∙ first_row; of = e; is_released = refl }
  row_there (suc i) l = record { object = row_of (Beside o.serial); there = other_row (o.serial + suc i) (omega arith) (omega (arith, l)); of = refl; is_released = refl }

  result_known : (z : Id) (place : ℕ) (source : ObjectSource) → KnowsResult (log ++ born ∷ []) z o place (row_of source) true
  result_known z place source = record { made = λ number e. absurd (cc); bare = λ e. (refl, refl); rests = λ e f. absurd (cc); spent = λ e. absurd (cc) }

  task_now : IsTask b → KnowsTask (q asked_now) o there_.objects asks
  task_now task = record {
    spec = born_now;
    is_task = task;
    begun = let low : o.serial ≤ o.serial = omega arith in let high : o.serial < o.serial + results_of b = omega arith in kept (run_in o) refl ∙ (unknown asked_now rows o.serial low high).unbegun;
    few = omega arith;
    above = λ i j l d. elim (among_of (asking (attempt o i) j) asked asked_now d) [
      | inl old ↦ unborn_unasked i j old
      | inr new ↦ let e : ◌≡◌ {A = ℕ} 0 i = ap (λ (r : Asking). r.attempt.number) (among_one (asking (attempt o i) j) (asking (attempt o 0) (length (log ++ born ∷ []))) new) in omega (arith, l, e)
    ];
    progress = (refl, (length (log ++ born ∷ []), among_right (asking (attempt o 0) (length (log ++ born ∷ []))) asked asked_now (among_here (asking (attempt o 0) (length (log ++ born ∷ []))) [])), λ j a. tt);
    released = false;
    kept = λ e. refl;
    rows = row_there;
    wanted = λ e.
        let i : ◌≡◌ {A = ℕ} (o.serial + 0) o.serial = omega arith in
        record { place = 0; within = omega arith; object = row_of (ByTask asks); there = ap (item_at there_.objects) i ∙ first_row; first = i; wanted = refl };
  }

  row_known : IsTask b → (m : ℕ) (z : Object) → ((o.serial ≡ m) × (row_of (ByTask asks) ≡ z)) ⊎ ((o.serial < m) × (m < o.serial + suc (others_of b)) × (row_of (Beside o.serial) ≡ z)) → KnowsObject (q asked_now) there_ (object_id w m) z
  row_known task m z (inl r) =
      let low : o.serial ≤ o.serial = omega arith in
      let high : o.serial < o.serial + results_of b = omega arith in
      let place : o.serial ≡ o.serial + 0 = omega arith in
      subst (λ n. KnowsObject (q asked_now) there_ (object_id w n) z) r.0
      (subst (KnowsObject (q asked_now) there_ o) r.1
      (new_known asked_now rows o.serial low high (row_of (ByTask asks)) refl refl refl refl refl refl (
        task_now task,
        (0, omega arith, place, part_now asked_now rows o.serial low high 0 place, result_known o 0 (ByTask asks)),
      )))
  row_known task m z (inr r) =
      let l = r.0 in
      let low : o.serial ≤ m = omega (arith, l) in
      let i : ℕ = m - o.serial in
      let place : m ≡ o.serial + i = omega (arith, l) in
      let u = r.1 in
      let within : i < results_of b = omega (arith, l, u) in
      subst (KnowsObject (q asked_now) there_ (object_id w m)) r.2
      (new_known asked_now rows m low r.1 (row_of (Beside o.serial)) refl refl refl refl refl refl (
        asks,
        ap task_of first_row,
        (i, within, place, part_now asked_now rows m low r.1 i place, result_known (object_id w m) i (Beside o.serial)),
      ))

  pub tasks_worker : IsTask b → KnowsWorker s (q asked_now) w (with_born x run b rows)
  tasks_worker task =
      let all : length rows ≡ results_of b = ap suc (repeated-length (others_of b) (row_of (Beside o.serial))) in
      bears_worker asked_now rows all
      (λ i n j apart d. elim (among_of (asking (attempt (object_id w i) n) j) asked asked_now d) [
        | inl old ↦ old
        | inr new ↦ let e : length x.objects + 1 ≡ i = ap (λ (r : Asking). r.attempt.object.serial) (among_one (asking (attempt (object_id w i) n) j) (asking (attempt o 0) (length (log ++ born ∷ []))) new) in absurd (apart (sym e))
      ])
      (λ m z i.
      let e : ◌≡◌ {A = ℕ} (1 + length x.objects) o.serial = omega arith in
      row_known task m z (one_or_repeated o.serial (others_of b) (row_of (ByTask asks)) (row_of (Beside o.serial)) m z (subst (λ n. item_of n rows m ≡ Some z) e i)))

-- What legal logs and calm ones tell: births come in order of their serials, what was begun stands in the log, and who was opened lives.
use Rattle.std.proofs.Common.{◌≡◌, ℕ, zero, suc, ◌+◌, ◌<◌, ◌≤◌, List, [], ◌∷◌, ◌++◌, length, Some, None, Option, refl, ap, sym, subst, ◌∙◌, ◌⊎◌, inl, inr}
use Rattle.std.proofs.Common.{arith, append_assoc}
use Rattle.std.specs.Prelude.{Bool, true, false, if◌then◌else◌, not, ◌==◌, ◌&&◌, ◌||◌, nat_lt, slice_get}
use Rattle.std.specs.List.{flat_map, list_any}
use Rattle.std.proofs.lemmas.List.Concat.{flat_map-append}
use Rattle.std.proofs.lemmas.Bool.Decides.{nat_tests}
use Rattle.std.proofs.lemmas.Bool.{false_from_ne_true}
use Rattle.sequence.proofs.Places.{and_left, and_right, or_cases}
use Rattle.meaning.proofs.BirthLaws.{at_test, same_id-refl, same_id-true}
use Rattle.meaning.specs.Values.{Birth, results_of, Id, main_birth}
use Rattle.meaning.specs.Births.{Bearing, birth_at, objects_at, same_id}
use Rattle.event_log.specs.Entries.{Attempt, Event, Entry, In, Refused, Opened, Begun, Born, Got, Printed, Ended, Accepted, Faulted, Resolved, Released}
use Rattle.event_log.specs.Entries.{main_object, Claim, Commit, Deliver, Tick, Notice, NoticeNode, Evict, Lose, Kill, KillNode, Join}
use Rattle.event_log.specs.Words.{accepts_of, births, born_in, main_bearing, next_serial, worker_of}
use Rattle.event_log.specs.Events.{accepted_events, is_live, kills, kills_node, loses, node_is_killed, node_of, refused_next}
use Rattle.event_log.specs.Breaks.{Among, Standing, breaks, breaks_from, breaks_of}
use Rattle.event_log.specs.Breaks as B
use Rattle.event_log.specs.Legal.{Legal, has_event, opening}
use Rattle.event_log.specs.Rules.{Allowed, MayBear, Setting}
use Rattle.event_log.proofs.EventLaws.{accepted-event}
use Rattle.event_log.proofs.Extending.{birth_at-more}
use Rattle.event_log.proofs.Growing.{entries_have_their_needs}
use Rattle.event_log.proofs.OwnLaws.{live_unless_killed}
use Rattle.event_log.proofs.SaneLaws.{always}
use Rattle.event_log.proofs.WordLaws.{births_push, next_serial-push}
use Rattle.holding.specs.Past as facts
use Rattle.holding.specs.Past.{Fact, Has}
use Rattle.holding.specs.Tells.{IsFactOf, Stands, Tells, facts_in}
use Rattle.lease_discipline.proofs.of_protocol_legal.Calm.{any_weaker}
use Rattle.protocol_owed.specs.Seen.{IsCalm, is_failure}
use Rattle.protocol_owed.proofs.Envelopes.{among-push_cases}

-- ---- lists

pub record IsSplit {X : Type 0} (xs : List X) (x : X) : Type 0 where
  pub before : List X
  pub after : List X
  pub parts : xs ≡ before ++ x ∷ after

pub split_at : {X : Type 0} (xs : List X) (x : X) → Among x xs → IsSplit xs x
split_at [] x e = let f = e.1 in absurd (cc)
split_at (y ∷ xs) x (zero, e) = let same : y ≡ x = cc in record { before = []; after = xs; parts = ap (λ z. z ∷ xs) same }
split_at (y ∷ xs) x (suc k, e) = let s = split_at xs x (k, e) in record { before = y ∷ s.before; after = s.after; parts = ap (λ zs. y ∷ zs) s.parts }

pub item_below : {X : Type 0} (xs : List X) (i : ℕ) → i < length xs → (x : X) × (slice_get xs i ≡ Some x)
item_below [] i e = absurd (omega (arith, e))
item_below (x ∷ xs) zero e = (x, refl)
item_below (x ∷ xs) (suc i) e = item_below xs i (omega (arith, e))

pub at_most_or_more : (m n : ℕ) → (m ≤ n) ⊎ (n < m)
at_most_or_more m n = at_test (λ b. nat_lt n m ≡ b → (m ≤ n) ⊎ (n < m)) (nat_lt n m) (λ _ e. inr (less e)) (λ _ e. inl (most e)) refl
  where
    less : nat_lt n m ≡ true → n < m
    less e = grind (arith, nat_tests)

    most : nat_lt n m ≡ false → m ≤ n
    most e = grind (arith, nat_tests)

-- ---- births

serial_at_first : (w : ℕ) (ys : List Bearing) → (if w == 1 then 0 else 1) ≤ next_serial w ys
serial_at_first w [] = omega arith
serial_at_first w (y ∷ ys) = let e = serial_at_first w ys in omega (arith, e)

serial_more : (w : ℕ) (xs ys : List Bearing) → next_serial w xs ≤ next_serial w (xs ++ ys)
serial_more w [] ys = serial_at_first w ys
serial_more w (x ∷ xs) ys = let e = serial_more w xs ys in omega (arith, e)

pub some_serial : (w : ℕ) (log : List Entry) → 1 ≤ next_serial w (births log)
some_serial w log =
    let rest = serial_at_first w (flat_map born_in log) in
    at_test (λ t. (w == 1) ≡ t → (if t then 0 else 1) ≤ next_serial w (flat_map born_in log) → 1 ≤ next_serial w (births log)) (w == 1)
    (λ _ e f. first e) (λ _ e f. omega (arith, f)) refl rest
  where
    first : (w == 1) ≡ true → 1 ≤ next_serial w (births log)
    first e =
        let one : (1 == w) ≡ true = turned e in
        let is : ◌≡◌ {A = ℕ} (if 1 == w then 1 else 0) 1 = ap (λ t. if t then 1 else 0) one in
        omega (arith, is)
      where
        turned : (w == 1) ≡ true → (1 == w) ≡ true
        turned e = grind (arith, nat_tests)

births_grow : (log es : List Entry) (w : ℕ) → next_serial w (births log) ≤ next_serial w (births (log ++ es))
births_grow log es w =
    subst (λ bs. next_serial w (births log) ≤ next_serial w bs) (ap (λ bs. main_bearing ∷ bs) (sym (flat_map-append born_in log es)))
    (serial_more w (births log) (flat_map born_in es))

-- what is born in an event has no serial that was given before
pub born_behind : (s : Setting) (log : List Entry) (e : Event) (seat : ℕ) (es : List Entry) → Legal s (log ++ In e seat ∷ es) →
    (rest : List Entry) → log ≡ opening ++ rest → (o : Id) (a : Attempt) (b : Birth) → Among (Born o a b) es → next_serial o.owner (births log) ≤ o.serial
born_behind s log e seat es legal rest begins o a b among =
    let sp : IsSplit es (Born o a b) = split_at es (Born o a b) among in
    let before : List Entry = rest ++ In e seat ∷ sp.before in
    let parts : log ++ In e seat ∷ es ≡ opening ++ (before ++ Born o a b ∷ sp.after) =
    ap (λ xs. xs ++ In e seat ∷ es) begins ∙ ap (λ xs. opening ++ xs)
    (ap (λ xs. rest ++ In e seat ∷ xs) sp.parts ∙ sym (append_assoc rest (In e seat ∷ sp.before) (Born o a b ∷ sp.after))) in
    let may : MayBear s (opening ++ before) o a b =
    (entries_have_their_needs s (log ++ In e seat ∷ es) legal before (Born o a b) sp.after parts).allowed in
    let next : o.serial ≡ next_serial o.owner (births (opening ++ before)) = may.next in
    let more : next_serial o.owner (births log) ≤ next_serial o.owner (births (log ++ In e seat ∷ sp.before)) =
    births_grow log (In e seat ∷ sp.before) o.owner in
    let same : log ++ In e seat ∷ sp.before ≡ opening ++ before = ap (λ xs. xs ++ In e seat ∷ sp.before) begins in
    let equal : next_serial o.owner (births (log ++ In e seat ∷ sp.before)) ≡ next_serial o.owner (births (opening ++ before)) =
    ap (λ xs. next_serial o.owner (births xs)) same in
    omega (arith, next, more, equal)

-- each birth that the log has is what the object was born as
record BirthsStand (log : List Entry) : Type 0 where
  bound : (o : Id) (b : Birth) → birth_at (births log) o ≡ Some b → o.serial < next_serial o.owner (births log)
  stand : (o : Id) (a : Attempt) (b : Birth) → Among (Born o a b) log → birth_at (births log) o ≡ Some b

found_in : (xs : List Bearing) (x : Bearing) (o : Id) (b : Birth) → birth_at (xs ++ x ∷ []) o ≡ Some b →
    (birth_at xs o ≡ Some b) ⊎ (x.object ≡ o)
found_in [] x o b e = at_test (λ t. same_id x.object o ≡ t → (if t then Some x.birth else None) ≡ Some b → (birth_at [] o ≡ Some b) ⊎ (x.object ≡ o))
    (same_id x.object o) (λ _ t _. inr (same_id-true x.object o t)) (λ _ t f. absurd (cc)) refl e
found_in (y ∷ xs) x o b e = at_test (λ t. (if t then Some y.birth else birth_at (xs ++ x ∷ []) o) ≡ Some b →
    ((if t then Some y.birth else birth_at xs o) ≡ Some b) ⊎ (x.object ≡ o)) (same_id y.object o) (λ _ f. inl f) (λ _ f. found_in xs x o b f) e

found_last : (xs : List Bearing) (o : Id) (b : Birth) → ((c : Birth) → birth_at xs o ≡ Some c → ⊥) →
    birth_at (xs ++ record { object = o; birth = b } ∷ []) o ≡ Some b
found_last [] o b none = ap (λ t. if t then Some b else None) (same_id-refl o)
found_last (y ∷ xs) o b none =
    at_test (λ t. ((c : Birth) → (if t then Some y.birth else birth_at xs o) ≡ Some c → ⊥) →
    (if t then Some y.birth else birth_at (xs ++ record { object = o; birth = b } ∷ []) o) ≡ Some b) (same_id y.object o)
    (λ _ f. absurd (f y.birth refl)) (λ _ f. found_last xs o b f) none

no_more : (xs : List Bearing) → xs ++ [] ≡ xs
no_more [] = refl
no_more (x ∷ xs) = ap (λ ys. x ∷ ys) (no_more xs)

unborn_step : (before : List Entry) (x : Entry) → born_in x ≡ [] → BirthsStand before → BirthsStand (before ++ x ∷ [])
unborn_step before x none q =
    let same : births (before ++ x ∷ []) ≡ births before = births_push before x ∙ ap (λ bs. births before ++ bs) none ∙ no_more (births before) in
    record {
      bound = λ o b e. subst (λ bs. o.serial < next_serial o.owner bs) (sym same) (q.bound o b (ap (λ bs. birth_at bs o) (sym same) ∙ e));
      stand = λ o a b e. ap (λ bs. birth_at bs o) same ∙ elim (among-push_cases before x (Born o a b) e) [
        | inl old ↦ q.stand o a b old
        | inr is ↦ absurd (is_unborn o a b is)
      ];
    }
  where
    is_unborn : (o : Id) (a : Attempt) (b : Birth) → Born o a b ≡ x → ⊥
    is_unborn o a b is = let f : born_in (Born o a b) ≡ [] = ap born_in is ∙ none in absurd (cc)

births_step : (s : Setting) (before : List Entry) (x : Entry) → BirthsStand before → Allowed s before x → BirthsStand (before ++ x ∷ [])
births_step s before (Born p a c) q may =
    let now : births (before ++ Born p a c ∷ []) ≡ births before ++ record { object = p; birth = c } ∷ [] = births_push before (Born p a c) in
    let new : Bearing = record { object = p; birth = c } in
    let next : p.serial ≡ next_serial p.owner (births before) = may.next in
    let none : (d : Birth) → birth_at (births before) p ≡ Some d → ⊥ = λ d f. let less = q.bound p d f in absurd (omega (arith, less, next)) in
    record {
      bound = λ o b e.
          let f : birth_at (births before ++ new ∷ []) o ≡ Some b = ap (λ bs. birth_at bs o) (sym now) ∙ e in
          let push = next_serial-push o.owner (births before) new in
          subst (λ bs. o.serial < next_serial o.owner bs) (sym now)
          (elim (found_in (births before) new o b f) [
            | inl g ↦ let less = q.bound o b g in omega (arith, less, push)
            | inr same ↦ subst (λ (z : Id). z.serial < next_serial z.owner (births before ++ new ∷ [])) same (one_more p c next)
          ]);
      stand = λ o b d e. subst (λ bs. birth_at bs o ≡ Some d) (sym now) (elim (among-push_cases before (Born p a c) (Born o b d) e) [
        | inl old ↦ birth_at-more (births before) (new ∷ []) o d (q.stand o b d old)
        | inr same ↦ of_new o b d same none
      ]);
    }
  where
    one_more : (p : Id) (c : Birth) → p.serial ≡ next_serial p.owner (births before) →
        p.serial < next_serial p.owner (births before ++ record { object = p; birth = c } ∷ [])
    one_more p c next =
        let push = next_serial-push p.owner (births before) (record { object = p; birth = c }) in
        let all : ◌≡◌ {A = ℕ} (if p.owner == p.owner then results_of c else 0) (results_of c) = ap (λ t. if t then results_of c else 0) (equal p.owner) in
        let some : 1 ≤ results_of c = omega arith in
        omega (arith, next, push, all, some)
      where
        equal : (n : ℕ) → (n == n) ≡ true
        equal n = grind (arith, nat_tests)

    of_new : (o : Id) (b : Attempt) (d : Birth) → Born o b d ≡ Born p a c → ((d : Birth) → birth_at (births before) p ≡ Some d → ⊥) →
        birth_at (births before ++ record { object = p; birth = c } ∷ []) o ≡ Some d
    of_new o b d same none =
        let ids : o ≡ p = cc in
        let births_are : d ≡ c = cc in
        subst (λ z. birth_at (births before ++ record { object = p; birth = c } ∷ []) z ≡ Some d) (sym ids)
        (found_last (births before) p c none ∙ ap (λ z. Some z) (sym births_are))
births_step s before (In e seat) q may = unborn_step before (In e seat) refl q
births_step s before (Refused code) q may = unborn_step before (Refused code) refl q
births_step s before (Opened w n) q may = unborn_step before (Opened w n) refl q
births_step s before (Begun a w) q may = unborn_step before (Begun a w) refl q
births_step s before (Got a y c) q may = unborn_step before (Got a y c) refl q
births_step s before (Printed v) q may = unborn_step before (Printed v) refl q
births_step s before (Ended a c) q may = unborn_step before (Ended a c) refl q
births_step s before (Accepted a) q may = unborn_step before (Accepted a) refl q
births_step s before (Faulted a y f) q may = unborn_step before (Faulted a y f) refl q
births_step s before (Resolved o f) q may = unborn_step before (Resolved o f) refl q
births_step s before (Released o) q may = unborn_step before (Released o) refl q

opening_births : BirthsStand opening
opening_births = record {
  bound = λ o b e. at_test (λ t. same_id main_object o ≡ t →
      (if t then Some main_birth else None) ≡ Some b → o.serial < next_serial o.owner (births opening))
      (same_id main_object o)
      (λ _ t _. subst (λ (z : Id). z.serial < next_serial z.owner (births opening)) (same_id-true main_object o t) (omega arith))
      (λ _ _ f. absurd (cc)) refl e;
  stand = λ o a b e. absurd (nothing o a b e);
}
  where
    nothing : (o : Id) (a : Attempt) (b : Birth) → Among (Born o a b) opening → ⊥
    nothing o a b (zero, e) = absurd (cc)
    nothing o a b (suc zero, e) = absurd (cc)
    nothing o a b (suc (suc k), e) = absurd (cc)

-- what an entry says that was born, was born so
pub birth_stands : (s : Setting) (log : List Entry) → Legal s log → (o : Id) (a : Attempt) (b : Birth) → Among (Born o a b) log →
    birth_at (births log) o ≡ Some b
birth_stands s log legal o a b e = (always BirthsStand births_step s log opening_births legal).stand o a b e

-- ---- beginnings

stands_among : (x : Entry) (log : List Entry) → Stands x log → Among x log
stands_among x [] e = absurd e
stands_among x (y ∷ log) (inl e) = (zero, ap (λ z. Some z) (sym e))
stands_among x (y ∷ log) (inr e) = let f = stands_among x log e in (suc f.0, f.1)

begun_entry : (x : Entry) (a : Attempt) (w : ℕ) → Has (facts.Begun a w) (facts_in x) → x ≡ Begun a w
begun_entry (Begun b v) a w (inl e) = same b v e
  where
    same : (b : Attempt) (v : ℕ) → facts.Begun a w ≡ facts.Begun b v → Begun b v ≡ Begun a w
    same b v e = let f : b ≡ a = cc in let g : v ≡ w = cc in ap (λ i. Begun i v) f ∙ ap (Begun a) g
begun_entry (Begun b v) a w (inr e) = absurd e
begun_entry (In e seat) a w h = absurd h
begun_entry (Refused code) a w h = absurd h
begun_entry (Opened v n) a w h = absurd h
begun_entry (Born o b c) a w (inl e) = absurd (cc)
begun_entry (Born o b c) a w (inr e) = absurd e
begun_entry (Got b y c) a w (inl e) = absurd (cc)
begun_entry (Got b y c) a w (inr e) = absurd e
begun_entry (Printed v) a w h = absurd h
begun_entry (Ended b c) a w (inl e) = absurd (cc)
begun_entry (Ended b c) a w (inr e) = absurd e
begun_entry (Accepted b) a w (inl e) = absurd (cc)
begun_entry (Accepted b) a w (inr e) = absurd e
begun_entry (Faulted b y f) a w (inl e) = absurd (cc)
begun_entry (Faulted b y f) a w (inr e) = absurd e
begun_entry (Resolved o f) a w h = absurd h
begun_entry (Released o) a w (inl e) = absurd (cc)
begun_entry (Released o) a w (inr e) = absurd e

-- an attempt that runs by the log was begun there
pub begun_there : (log : List Entry) (past : List Fact) → Tells log past → (a : Attempt) (w : ℕ) → worker_of a log ≡ Some w → Among (Begun a w) log
begun_there log past tells a w runs =
    let f : IsFactOf log (facts.Begun a w) = tells.meant (facts.Begun a w) refl (tells.runs a w runs) in
    subst (λ x. Among x log) (begun_entry f.entry a w f.fact) (stands_among f.entry log f.stands)

-- ---- calm logs

no_such : (log : List Entry) (p : Event → Bool) → ((e : Event) → p e ≡ true → is_failure e ≡ true) → IsCalm log → list_any p (accepted_events log) ≡ false
no_such log p fails calm = false_from_ne_true (list_any p (accepted_events log)) (λ e. bad (any_weaker p is_failure fails (accepted_events log) e))
  where
    bad : list_any is_failure (accepted_events log) ≡ true → ⊥
    bad e = let f = calm in absurd (cc)

kills_fail : (w n : ℕ) (e : Event) → kills w n e ≡ true → is_failure e ≡ true
kills_fail w n (Kill v) e = refl
kills_fail w n (KillNode m) e = refl
kills_fail w n (Claim v) e = absurd (cc)
kills_fail w n (Commit j) e = absurd (cc)
kills_fail w n (Deliver k) e = absurd (cc)
kills_fail w n (Tick v) e = absurd (cc)
kills_fail w n (Notice v u) e = absurd (cc)
kills_fail w n (NoticeNode v m) e = absurd (cc)
kills_fail w n (Evict m o) e = absurd (cc)
kills_fail w n (Lose m o) e = refl
kills_fail w n Join e = absurd (cc)

node_kills_fail : (n : ℕ) (e : Event) → kills_node n e ≡ true → is_failure e ≡ true
node_kills_fail n (KillNode m) e = refl
node_kills_fail n (Kill v) e = refl
node_kills_fail n (Claim v) e = absurd (cc)
node_kills_fail n (Commit j) e = absurd (cc)
node_kills_fail n (Deliver k) e = absurd (cc)
node_kills_fail n (Tick v) e = absurd (cc)
node_kills_fail n (Notice v u) e = absurd (cc)
node_kills_fail n (NoticeNode v m) e = absurd (cc)
node_kills_fail n (Evict m o) e = absurd (cc)
node_kills_fail n (Lose m o) e = refl
node_kills_fail n Join e = absurd (cc)

pub calm_live : (log : List Entry) (w n : ℕ) → IsCalm log → node_of w log ≡ Some n → is_live w log ≡ true
calm_live log w n calm at = live_unless_killed log w n at (no_such log (kills w n) (kills_fail w n) calm)

pub calm_node : (log : List Entry) (n : ℕ) → IsCalm log → node_is_killed n log ≡ false
unfolding node_is_killed
calm_node log n calm = no_such log (kills_node n) (node_kills_fail n) calm

loss_fails : (n : ℕ) (o : Id) (e : Event) → loses n o e ≡ true → is_failure e ≡ true
loss_fails n o (Lose m p) e = refl
loss_fails n o (Kill v) e = absurd (cc)
loss_fails n o (KillNode m) e = absurd (cc)
loss_fails n o (Claim v) e = absurd (cc)
loss_fails n o (Commit j) e = absurd (cc)
loss_fails n o (Deliver k) e = absurd (cc)
loss_fails n o (Tick v) e = absurd (cc)
loss_fails n o (Notice v u) e = absurd (cc)
loss_fails n o (NoticeNode v m) e = absurd (cc)
loss_fails n o (Evict m p) e = absurd (cc)
loss_fails n o Join e = absurd (cc)

losses_fail : (n : ℕ) (os : List Id) (e : Event) → list_any (λ o. loses n o e) os ≡ true → is_failure e ≡ true
losses_fail n [] e h = absurd (cc)
losses_fail n (o ∷ os) e h = elim (or_cases (loses n o e) (list_any (λ p. loses n p e) os) h) [ inl g ↦ loss_fails n o e g | inr g ↦ losses_fail n os e g ]

breaks_fail : (x : Standing) (b : Bool) (e : Event) → breaks x b e ≡ true → is_failure e ≡ true
breaks_fail x b e h =
    let kept : Bool = not x.is_accepted in
    let lost : Bool = kills_node x.node e || list_any (λ o. loses x.node o e) x.objects in
    elim (or_cases (kills x.worker x.node e && kept) (b && lost) h) [
      | inl g ↦ kills_fail x.worker x.node e (and_left (kills x.worker x.node e) kept g)
      | inr g ↦ elim (or_cases (kills_node x.node e) (list_any (λ o. loses x.node o e) x.objects) (and_right b lost g)) [
        | inl k ↦ node_kills_fail x.node e k
        | inr k ↦ losses_fail x.node x.objects e k
      ]
    ]

any_split : (f : Event → Bool) (xs ys : List Event) → list_any f (xs ++ ys) ≡ false → (list_any f xs ≡ false) × (list_any f ys ≡ false)
any_split f [] ys e = (refl, e)
any_split f (x ∷ xs) ys e = by_first (f x) refl e (λ g. any_split f xs ys g)
  where
    by_first : (b : Bool) → f x ≡ b → (f x || list_any f (xs ++ ys)) ≡ false →
        (list_any f (xs ++ ys) ≡ false → (list_any f xs ≡ false) × (list_any f ys ≡ false)) →
        ((f x || list_any f xs) ≡ false) × (list_any f ys ≡ false)
    by_first true g h rest = absurd (cc)
    by_first false g h rest =
        let r = rest (ap (λ b. b || list_any f (xs ++ ys)) (sym g) ∙ h) in
        (ap (λ b. b || list_any f xs) g ∙ r.0, r.1)

event_fails : (t : Bool) (e : Event) (x : Standing) (b : Bool) (k : ℕ) → list_any is_failure (if t then [] else e ∷ []) ≡ false →
    (if not t && breaks x b e then k ∷ [] else []) ≡ []
event_fails true e x b k h = refl
event_fails false e x b k h = at_test (λ u. breaks x b e ≡ u → (if u then k ∷ [] else []) ≡ []) (breaks x b e)
    (λ _ f. absurd (bad (breaks_fail x b e f) h)) (λ _ _. refl) refl
  where
    bad : is_failure e ≡ true → (is_failure e || false) ≡ false → ⊥
    bad f g = let i : (true || false) ≡ false = ap (λ u. u || false) (sym f) ∙ g in absurd (cc)

unbroken : (x : Standing) (log : List Entry) (k : ℕ) (b : Bool) → list_any is_failure (accepted_events log) ≡ false → breaks_from x k b log ≡ []
unfolding accepted_events breaks_from
unbroken x [] k b h = refl
unbroken x (In e seat ∷ rest) k b h =
    let two = any_split is_failure (if refused_next rest then [] else e ∷ []) (accepted_events rest) h in
    ap (λ ps. ps ++ breaks_from x (k + 1) b rest) (event_fails (refused_next rest) e x b k two.0) ∙ unbroken x rest (k + 1) b two.1
unbroken x (Refused code ∷ rest) k b h = unbroken x rest (k + 1) (b || B.is_end_of x.attempt (Refused code)) h
unbroken x (Opened w n ∷ rest) k b h = unbroken x rest (k + 1) (b || B.is_end_of x.attempt (Opened w n)) h
unbroken x (Begun a w ∷ rest) k b h = unbroken x rest (k + 1) (b || B.is_end_of x.attempt (Begun a w)) h
unbroken x (Born o a c ∷ rest) k b h = unbroken x rest (k + 1) (b || B.is_end_of x.attempt (Born o a c)) h
unbroken x (Got a y c ∷ rest) k b h = unbroken x rest (k + 1) (b || B.is_end_of x.attempt (Got a y c)) h
unbroken x (Printed v ∷ rest) k b h = unbroken x rest (k + 1) (b || B.is_end_of x.attempt (Printed v)) h
unbroken x (Ended a c ∷ rest) k b h = unbroken x rest (k + 1) (b || B.is_end_of x.attempt (Ended a c)) h
unbroken x (Accepted a ∷ rest) k b h = unbroken x rest (k + 1) (b || B.is_end_of x.attempt (Accepted a)) h
unbroken x (Faulted a y f ∷ rest) k b h = unbroken x rest (k + 1) (b || B.is_end_of x.attempt (Faulted a y f)) h
unbroken x (Resolved o f ∷ rest) k b h = unbroken x rest (k + 1) (b || B.is_end_of x.attempt (Resolved o f)) h
unbroken x (Released o ∷ rest) k b h = unbroken x rest (k + 1) (b || B.is_end_of x.attempt (Released o)) h

-- nothing breaks an attempt
pub calm_unbroken : (a : Attempt) (log : List Entry) (place : ℕ) → IsCalm log → Among place (breaks_of a log) → ⊥
unfolding breaks_of
calm_unbroken a log place calm e = by_worker (worker_of a log) e
  where
    by_node : (w : ℕ) (o : Option ℕ) →
        Among place (B.at_worker o [] (λ n. breaks_from (record {
          attempt = a;
          worker = w;
          node = n;
          is_accepted = B.is_some
              (accepts_of a log);
          objects = objects_at (births log) a.object;
        }) 0 false log)) → ⊥
    by_node w None f = let g = f.1 in absurd (cc)
    by_node w (Some n) f =
        let g : Among place [] = subst (λ ps. Among place ps) (unbroken (record {
          attempt = a;
          worker = w;
          node = n;
          is_accepted = B.is_some
              (accepts_of a log);
          objects = objects_at (births log) a.object;
        }) log 0 false calm) f in
        let i = g.1 in absurd (cc)

    by_worker : (o : Option ℕ) → Among place (B.at_worker o [] (λ w. B.at_worker (node_of w log) []
        (λ n. breaks_from (record { attempt = a; worker = w; node = n; is_accepted = B.is_some (accepts_of a log); objects = objects_at (births log) a.object }) 0 false log))) → ⊥
    by_worker None f = let g = f.1 in absurd (cc)
    by_worker (Some w) f = by_node w (node_of w log) f

-- an event of a calm run was preceded by calm
pub calm_before : (log : List Entry) (e : Event) (seat : ℕ) (es : List Entry) → has_event es ≡ false → IsCalm (log ++ In e seat ∷ es) → IsCalm log
calm_before log e seat es none calm =
    (any_split is_failure (accepted_events log) (if refused_next es then [] else e ∷ []) (ap (list_any is_failure) (sym
    (accepted-event log e seat es none)) ∙ calm)).0

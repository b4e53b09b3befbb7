-- What follows of every legal log, entry by entry.
use Rattle.std.proofs.Common.{◌≡◌, ℕ, zero, suc, ◌+◌, ◌<◌, ◌≤◌, Bool, true, false, List, [], ◌∷◌, ◌++◌, length, Option, Some, None, ◌⊎◌, inl, inr, refl, sym, ap, ◌∙◌, subst, arith, append-nil, append_assoc}
use Rattle.std.specs.Prelude.{if◌then◌else◌, ◌==◌, slice_get}
use Rattle.std.specs.List.{flat_map}
use Rattle.std.proofs.lemmas.Bool.Decides.{nat_tests}
use Rattle.script_laws.specs.of_meaning.Values.{Outcome, results_of, Id}
use Rattle.script_laws.specs.of_meaning.Births.{same_id, Bearing, is_made_by, Part, part_of, part_at, IsFirstOf, AreGrouped}
use Rattle.script_laws.specs.of_meaning.Readings.{IsBorn}
use Rattle.script_laws.proofs.of_meaning.BirthLaws.{same_id-true, same_id-refl, at_test, or_else, part_at-push, made_owner, made_from, made_below, grouped_push, none_grouped}
use Rattle.event_log.specs.Entries.{Attempt, Entry, Begun, Born, Ended, Accepted, Faulted, Resolved, Released, main_attempt}
use Rattle.event_log.specs.Words.{same_attempt, births, born_in, main_bearing, next_serial, run_in, runs_of, worker_of, ended_in, ends_of, Lack, faulted_in, faults_of, accepted_in, accepts_of, resolved_in, resolves_of, released_in, releases_of}
use Rattle.event_log.specs.Events.{node_of}
use Rattle.event_log.specs.Breaks.{Among}
use Rattle.event_log.specs.Rules.{Setting, Allowed}
use Rattle.event_log.specs.Legal.{EachAllowed, LegalFrom, Legal, opening}
use Rattle.event_log.specs.Sane.{LegalLogsAreSane, Sane}
use Rattle.event_log.proofs.WordLaws.{word_push, births_push, next_serial-push, same_attempt-true}
use Rattle.event_log.proofs.EventLaws.{word-more}
use Rattle.event_log.proofs.Extending.{births-more, node_of-more}

-- ---- induction over a legal log

module _ (P : List Entry → Type 0) (step : (s : Setting) (before : List Entry) (x : Entry) → P before → Allowed s before x → P (before ++ x ∷ [])) where
  along : (s : Setting) (before es : List Entry) → P before → LegalFrom s before es → P (before ++ es)
  along s before [] p h = subst P (sym (append-nil before)) p
  along s before (x ∷ es) p h = subst P (append_assoc before (x ∷ []) es) (along s (before ++ x ∷ []) es (step s before x p h.0) h.2)

  pub always : (s : Setting) (log : List Entry) → P opening → Legal s log → P log
  always s log p h = subst P (sym h.begins) (along s opening h.rest p h.each)

-- ---- words with one more entry

-- what stands in a longer word stood there, or is of the last entry
pub last_of : {X : Type 0} (xs ys : List X) (k : ℕ) (y : X) → slice_get (xs ++ ys) k ≡ Some y → (slice_get xs k ≡ Some y) ⊎ ((j : ℕ) × (slice_get ys j ≡ Some y))
last_of [] ys k y e = inr (k, e)
last_of (x ∷ xs) ys zero y e = inl e
last_of (x ∷ xs) ys (suc k) y e = last_of xs ys k y e

pub word_last : {X : Type 0} (f : Entry → List X) (log : List Entry) (x : Entry) (k : ℕ) (y : X) → slice_get (flat_map f (log ++ x ∷ [])) k ≡ Some y → (slice_get (flat_map f log) k ≡ Some y) ⊎ ((j : ℕ) × (slice_get (f x) j ≡ Some y))
word_last f log x k y e = last_of (flat_map f log) (f x) k y (subst (λ xs. slice_get xs k ≡ Some y) (word_push f log x) e)

pub none_at : {X : Type 0} (k : ℕ) (y : X) → slice_get [] k ≡ Some y → ⊥
none_at k y e = absurd (cc)

-- the one element of a list that has one where the test holds
pub one_at : {X : Type 0} (b : Bool) (x y : X) (j : ℕ) → slice_get (if b then x ∷ [] else []) j ≡ Some y → (b ≡ true) × (x ≡ y)
one_at true x y zero e = (refl, cc)
one_at true x y (suc j) e = absurd (none_at j y e)
one_at false x y j e = absurd (none_at j y e)

length-more : {X : Type 0} (xs ys : List X) → length (xs ++ ys) ≡ length xs + length ys
length-more [] ys = omega arith
length-more (x ∷ xs) ys = let e = length-more xs ys in omega (arith, e)

length_push : {X : Type 0} (f : Entry → List X) (log : List Entry) (x : Entry) → length (flat_map f (log ++ x ∷ [])) ≡ length (flat_map f log) + length (f x)
length_push f log x = ap (λ xs. length xs) (word_push f log x) ∙ length-more (flat_map f log) (f x)

no_length : {X : Type 0} (xs : List X) → xs ≡ [] → ◌≡◌ {A = ℕ} (length xs) 0
no_length xs e = ap (λ ys. length ys) e

-- ---- what was begun

abbrev pub BegunWell : List Entry → Type 0
BegunWell log = (o : Id) (k w : ℕ) → slice_get (runs_of o log) k ≡ Some w → IsFirstOf (births log) o × ((n : ℕ) × (node_of w log ≡ Some n))

begun_now : (s : Setting) (before : List Entry) (x : Entry) → Allowed s before x → (o : Id) (j w : ℕ) → slice_get (run_in o x) j ≡ Some w → IsFirstOf (births before) o × ((n : ℕ) × (node_of w before ≡ Some n))
begun_now s before (Begun a v) h o j w e =
    let f = one_at (same_id a.object o) v w j e in
    (subst (λ p. IsFirstOf (births before) p) (same_id-true a.object o f.0) (_, h.born), subst (λ u. (n : ℕ) × (node_of u before ≡ Some n)) f.1 (h.node, h.place))
begun_now s before x h o j w e = absurd (none_at j w e)

begun_more : (before : List Entry) (x : Entry) (o : Id) (w : ℕ) → IsFirstOf (births before) o × ((n : ℕ) × (node_of w before ≡ Some n)) → IsFirstOf (births (before ++ x ∷ [])) o × ((n : ℕ) × (node_of w (before ++ x ∷ []) ≡ Some n))
begun_more before x o w h = ((h.0.0, births-more before (x ∷ []) o h.0.0 h.0.1), (h.1.0, node_of-more before (x ∷ []) w h.1.0 h.1.1))

pub begun_step : (s : Setting) (before : List Entry) (x : Entry) → BegunWell before → Allowed s before x → BegunWell (before ++ x ∷ [])
begun_step s before x p h o k w e = begun_more before x o w (elim (word_last (run_in o) before x k w e) [ inl old ↦ p o k w old | inr new ↦ begun_now s before x h o new.0 w new.1 ])

pub begun_first : BegunWell opening
begun_first o k w e =
    let f = one_at (same_id main_attempt.object o) 1 w k (subst (λ xs. slice_get xs k ≡ Some w) (append-nil (run_in o (Begun main_attempt 1))) e) in
    (subst (λ p. IsFirstOf (births opening) p) (same_id-true main_attempt.object o f.0) (_, ap (λ t. if t then Some main_bearing.birth else None) (same_id-refl main_attempt.object)), subst (λ u. (n : ℕ) × (node_of u opening ≡ Some n)) f.1 (1, refl))

-- ---- what ended, has a fault or was accepted

abbrev HasWorker : List Entry → Attempt → Type 0
HasWorker log a = (w : ℕ) × (worker_of a log ≡ Some w)

worker-more : (before : List Entry) (x : Entry) (a : Attempt) → HasWorker before a → HasWorker (before ++ x ∷ []) a
worker-more before x a h = (h.0, word-more (run_in a.object) before (x ∷ []) a.number h.0 h.1)

abbrev EndedWell : List Entry → Type 0
EndedWell log = (a : Attempt) (k : ℕ) (c : List Outcome) → slice_get (ends_of a log) k ≡ Some c → HasWorker log a

ended_now : (s : Setting) (before : List Entry) (x : Entry) → Allowed s before x → (a : Attempt) (j : ℕ) (c : List Outcome) → slice_get (ended_in a x) j ≡ Some c → HasWorker before a
ended_now s before (Ended b d) h a j c e = subst (λ p. HasWorker before p) (same_attempt-true b a (one_at (same_attempt b a) d c j e).0) (h.worker, h.job.runs)
ended_now s before x h a j c e = absurd (none_at j c e)

ended_step : (s : Setting) (before : List Entry) (x : Entry) → EndedWell before → Allowed s before x → EndedWell (before ++ x ∷ [])
ended_step s before x p h a k c e = worker-more before x a (elim (word_last (ended_in a) before x k c e) [ inl old ↦ p a k c old | inr new ↦ ended_now s before x h a new.0 c new.1 ])

abbrev FaultedWell : List Entry → Type 0
FaultedWell log = (a : Attempt) (k : ℕ) (l : Lack) → slice_get (faults_of a log) k ≡ Some l → HasWorker log a

faulted_now : (s : Setting) (before : List Entry) (x : Entry) → Allowed s before x → (a : Attempt) (j : ℕ) (l : Lack) → slice_get (faulted_in a x) j ≡ Some l → HasWorker before a
faulted_now s before (Faulted b y f) h a j l e = subst (λ p. HasWorker before p) (same_attempt-true b a (one_at (same_attempt b a) (record { object = y; fault = f }) l j e).0) (h.worker, h.runs)
faulted_now s before x h a j l e = absurd (none_at j l e)

faulted_step : (s : Setting) (before : List Entry) (x : Entry) → FaultedWell before → Allowed s before x → FaultedWell (before ++ x ∷ [])
faulted_step s before x p h a k l e = worker-more before x a (elim (word_last (faulted_in a) before x k l e) [ inl old ↦ p a k l old | inr new ↦ faulted_now s before x h a new.0 l new.1 ])

abbrev HasEnd : List Entry → Attempt → Type 0
HasEnd log a = (cs : List Outcome) × Among cs (ends_of a log)

end-more : (before : List Entry) (x : Entry) (a : Attempt) → HasEnd before a → HasEnd (before ++ x ∷ []) a
end-more before x a h = (h.0, (h.1.0, word-more (ended_in a) before (x ∷ []) h.1.0 h.0 h.1.1))

abbrev AcceptedWell : List Entry → Type 0
AcceptedWell log = (a : Attempt) (k : ℕ) (b : Attempt) → slice_get (accepts_of a log) k ≡ Some b → HasEnd log a

accepted_now : (s : Setting) (before : List Entry) (x : Entry) → Allowed s before x → (a : Attempt) (j : ℕ) (b : Attempt) → slice_get (accepted_in a x) j ≡ Some b → HasEnd before a
accepted_now s before (Accepted d) h a j b e = subst (λ p. HasEnd before p) (same_attempt-true d a (one_at (same_attempt d a) d b j e).0) (h.contents, h.ended)
accepted_now s before x h a j b e = absurd (none_at j b e)

accepted_step : (s : Setting) (before : List Entry) (x : Entry) → AcceptedWell before → Allowed s before x → AcceptedWell (before ++ x ∷ [])
accepted_step s before x p h a k b e = end-more before x a (elim (word_last (accepted_in a) before x k b e) [ inl old ↦ p a k b old | inr new ↦ accepted_now s before x h a new.0 b new.1 ])

-- ---- what comes once

-- a list of at most one, and none where there was one before
unless_there : {X : Type 0} (n : ℕ) (b : Bool) (x : X) → n ≤ 1 → (b ≡ true → ◌≡◌ {A = ℕ} n 0) → n + length (if b then x ∷ [] else []) ≤ 1
unless_there n true x h f = let e = f refl in omega (arith, e)
unless_there n false x h f = omega (arith, h)

abbrev EndsOnce : List Entry → Type 0
EndsOnce log = (a : Attempt) → length (ends_of a log) + length (faults_of a log) ≤ 1

over_now : (s : Setting) (before : List Entry) (x : Entry) → Allowed s before x → (a : Attempt) → length (ends_of a before) + length (faults_of a before) ≤ 1 →
    (length (ends_of a before) + length (faults_of a before)) + (length (ended_in a x) + length (faulted_in a x)) ≤ 1
over_now s before (Ended b c) h a p =
    let n = length (ends_of a before) + length (faults_of a before) in
    let r = h.stops.replays in
    let k = unless_there n (same_attempt b a) c p (λ e. subst (λ x. ◌≡◌ {A = ℕ} (length (ends_of x before) + length (faults_of x before)) 0) (same_attempt-true b a e)
    (let i = no_length (ends_of b before) r.ended in let j = no_length (faults_of b before) r.faulted in omega (arith, i, j))) in
    omega (arith, k)
over_now s before (Faulted b y f) h a p =
    let n = length (ends_of a before) + length (faults_of a before) in
    let r = h.needs.replays in
    let l : Lack = record { object = y; fault = f } in
    let k = unless_there n (same_attempt b a) l p (λ e. subst (λ x. ◌≡◌ {A = ℕ} (length (ends_of x before) + length (faults_of x before)) 0) (same_attempt-true b a e)
    (let i = no_length (ends_of b before) r.ended in let j = no_length (faults_of b before) r.faulted in omega (arith, i, j))) in
    omega (arith, k)
over_now s before x h a p = omega (arith, p)

over_step : (s : Setting) (before : List Entry) (x : Entry) → EndsOnce before → Allowed s before x → EndsOnce (before ++ x ∷ [])
over_step s before x p h a =
    let i = length_push (ended_in a) before x in
    let j = length_push (faulted_in a) before x in
    let k = over_now s before x h a (p a) in
    omega (arith, i, j, k)

once_by : {X : Type 0} (f : Entry → List X) (before : List Entry) (x : Entry) → length (flat_map f before) + length (f x) ≤ 1 → length (flat_map f (before ++ x ∷ [])) ≤ 1
once_by f before x h = let i = length_push f before x in omega (arith, i, h)

abbrev AcceptedOnce : List Entry → Type 0
AcceptedOnce log = (a : Attempt) → length (accepts_of a log) ≤ 1

accepted_first : (s : Setting) (before : List Entry) (x : Entry) → Allowed s before x → (a : Attempt) → length (accepts_of a before) ≤ 1 → length (accepts_of a before) + length (accepted_in a x) ≤ 1
accepted_first s before (Accepted b) h a p = unless_there (length (accepts_of a before)) (same_attempt b a) b p (λ e. subst (λ y. ◌≡◌ {A = ℕ} (length (accepts_of y before)) 0) (same_attempt-true b a e) (no_length (accepts_of b before) h.once))
accepted_first s before x h a p = omega (arith, p)

accepted_once : (s : Setting) (before : List Entry) (x : Entry) → AcceptedOnce before → Allowed s before x → AcceptedOnce (before ++ x ∷ [])
accepted_once s before x p h a = once_by (accepted_in a) before x (accepted_first s before x h a (p a))

abbrev ResolvedOnce : List Entry → Type 0
ResolvedOnce log = (o : Id) → length (resolves_of o log) ≤ 1

resolved_first : (s : Setting) (before : List Entry) (x : Entry) → Allowed s before x → (o : Id) → length (resolves_of o before) ≤ 1 → length (resolves_of o before) + length (resolved_in o x) ≤ 1
resolved_first s before (Resolved q f) h o p = unless_there (length (resolves_of o before)) (same_id q o) f p (λ e. subst (λ y. ◌≡◌ {A = ℕ} (length (resolves_of y before)) 0) (same_id-true q o e) (no_length (resolves_of q before) h.once))
resolved_first s before x h o p = omega (arith, p)

resolved_once : (s : Setting) (before : List Entry) (x : Entry) → ResolvedOnce before → Allowed s before x → ResolvedOnce (before ++ x ∷ [])
resolved_once s before x p h o = once_by (resolved_in o) before x (resolved_first s before x h o (p o))

abbrev ReleasedOnce : List Entry → Type 0
ReleasedOnce log = (o : Id) → length (releases_of o log) ≤ 1

released_first : (s : Setting) (before : List Entry) (x : Entry) → Allowed s before x → (o : Id) → length (releases_of o before) ≤ 1 → length (releases_of o before) + length (released_in o x) ≤ 1
released_first s before (Released q) h o p = unless_there (length (releases_of o before)) (same_id q o) q p (λ e. subst (λ y. ◌≡◌ {A = ℕ} (length (releases_of y before)) 0) (same_id-true q o e) (no_length (releases_of q before) h.once))
released_first s before x h o p = omega (arith, p)

released_once : (s : Setting) (before : List Entry) (x : Entry) → ReleasedOnce before → Allowed s before x → ReleasedOnce (before ++ x ∷ [])
released_once s before x p h o = once_by (released_in o) before x (released_first s before x h o (p o))

-- ---- serials

abbrev Bound : List Bearing → Type 0
Bound bs = (o : Id) → IsBorn bs o → o.serial < next_serial o.owner bs

as_many : (n r : ℕ) → ◌≡◌ {A = ℕ} (if n == n then r else 0) r
as_many n r = let e : (n == n) ≡ true = grind (arith, nat_tests) in ap {B = ℕ} (λ t. if t then r else 0) e

-- the new birth's objects
bound_made : (bs : List Bearing) (x : Bearing) (o : Id) → x.object.serial ≡ next_serial x.object.owner bs → is_made_by x o ≡ true → o.serial < next_serial o.owner (bs ++ x ∷ [])
bound_made bs x o next m =
    let k = made_below x o m in
    let i = next_serial-push x.object.owner bs x in
    let n = as_many x.object.owner (results_of x.birth) in
    let here : o.serial < next_serial x.object.owner (bs ++ x ∷ []) = omega (arith, k, i, n, next) in
    subst (λ w. o.serial < next_serial w (bs ++ x ∷ [])) (made_owner x o m) here

-- one of them, where there was none of the object
bound_new : (bs : List Bearing) (x : Bearing) (o : Id) (p : Part) → x.object.serial ≡ next_serial x.object.owner bs → part_at (x ∷ []) o ≡ Some p → o.serial < next_serial o.owner (bs ++ x ∷ [])
bound_new bs x o p next e =
    at_test (λ t. (if t then Some (part_of x o) else None) ≡ Some p → (t ≡ true → o.serial < next_serial o.owner (bs ++ x ∷ [])) → o.serial < next_serial o.owner (bs ++ x ∷ [])) (is_made_by x o)
    (λ t _ f. f refl) (λ t k f. absurd (cc)) e (bound_made bs x o next)

bound_by : (bs : List Bearing) (x : Bearing) (o : Id) (p : Part) (q : Option Part) → x.object.serial ≡ next_serial x.object.owner bs → ((c : Part) → q ≡ Some c → o.serial < next_serial o.owner bs) →
    or_else q (part_at (x ∷ []) o) ≡ Some p → o.serial < next_serial o.owner (bs ++ x ∷ [])
bound_by bs x o p None next old e = bound_new bs x o p next e
bound_by bs x o p (Some c) next old e = let k = old c refl in let m = next_serial-push o.owner bs x in omega (arith, k, m)

bound_push : (bs : List Bearing) (x : Bearing) → x.object.serial ≡ next_serial x.object.owner bs → Bound bs → Bound (bs ++ x ∷ [])
bound_push bs x next h o b = bound_by bs x o b.0 (part_at bs o) next (λ c e. h o (c, e)) (sym (part_at-push bs x o) ∙ b.1)

-- so its objects are new
pub new_by : (bs : List Bearing) (x : Bearing) → x.object.serial ≡ next_serial x.object.owner bs → Bound bs → (o : Id) (p : Option Part) → is_made_by x o ≡ true → part_at bs o ≡ p → p ≡ None
new_by bs x next bound o None m e = refl
new_by bs x next bound o (Some p) m e =
    let h = bound o (p, e) in
    let from = made_from x o m in
    let same_owner = ap (λ w. next_serial w bs) (made_owner x o m) in
    absurd (omega (arith, h, next, from, same_owner))

-- each owner's serials are given in order, and births keep together
abbrev pub Ordered : List Bearing → Type 0
Ordered bs = Bound bs × AreGrouped bs

ordered_push : (bs : List Bearing) (x : Bearing) → x.object.serial ≡ next_serial x.object.owner bs → Ordered bs → Ordered (bs ++ x ∷ [])
ordered_push bs x next h = (bound_push bs x next h.0, grouped_push bs x (λ o m. new_by bs x next h.0 o (part_at bs o) m refl) h.1)

abbrev pub SerialsBound : List Entry → Type 0
SerialsBound log = Ordered (births log)

bound_same : (before : List Entry) (x : Entry) → born_in x ≡ [] → SerialsBound before → SerialsBound (before ++ x ∷ [])
bound_same before x e h = subst (λ bs. Ordered bs) (sym (births_push before x ∙ (ap (λ xs. births before ++ xs) e ∙ append-nil (births before)))) h

pub bound_step : (s : Setting) (before : List Entry) (x : Entry) → SerialsBound before → Allowed s before x → SerialsBound (before ++ x ∷ [])
bound_step s before (Born o a b) p h = subst (λ bs. Ordered bs) (sym (births_push before (Born o a b))) (ordered_push (births before) (record { object = o; birth = b }) h.next p)
bound_step s before x p h = bound_same before x refl p

bound_nothing : Bound []
bound_nothing o b = let e = b.1 in absurd (cc)

pub bound_first : SerialsBound opening
bound_first = ordered_push [] main_bearing refl (bound_nothing, none_grouped)

-- ---- the opening

driver_step : (s : Setting) (before : List Entry) (x : Entry) → node_of 1 before ≡ Some 1 → Allowed s before x → node_of 1 (before ++ x ∷ []) ≡ Some 1
driver_step s before x p h = node_of-more before (x ∷ []) 1 1 p

main_step : (s : Setting) (before : List Entry) (x : Entry) → worker_of main_attempt before ≡ Some 1 → Allowed s before x → worker_of main_attempt (before ++ x ∷ []) ≡ Some 1
main_step s before x p h = word-more (run_in main_attempt.object) before (x ∷ []) 0 1 p

main_first : worker_of main_attempt opening ≡ Some 1
unfolding same_id
main_first = refl

pub legal_logs_are_sane : LegalLogsAreSane
legal_logs_are_sane s log h = record {
  driver = always (λ l. node_of 1 l ≡ Some 1) driver_step s log refl h;
  main = always (λ l. worker_of main_attempt l ≡ Some 1) main_step s log main_first h;
  serials = (always SerialsBound bound_step s log bound_first h).0;
  grouped = (always SerialsBound bound_step s log bound_first h).1;
  born = λ o k w e. (always BegunWell begun_step s log begun_first h o k w e).0;
  opened = λ o k w e. (always BegunWell begun_step s log begun_first h o k w e).1;
  ended = always EndedWell ended_step s log (λ a k c e. absurd (none_at k c e)) h;
  faulted = always FaultedWell faulted_step s log (λ a k l e. absurd (none_at k l e)) h;
  accepted = always AcceptedWell accepted_step s log (λ a k b e. absurd (none_at k b e)) h;
  one_end = always EndsOnce over_step s log (λ a. omega arith) h;
  one_acceptance = always AcceptedOnce accepted_once s log (λ a. omega arith) h;
  one_resolution = always ResolvedOnce resolved_once s log (λ o. omega arith) h;
  one_release = always ReleasedOnce released_once s log (λ o. omega arith) h;
}

-- what each entry keeps, from one log on
pub each_keeps : (P : List Entry → Type 0) → ((s : Setting) (before : List Entry) (x : Entry) → P before → Allowed s before x → P (before ++ x ∷ [])) → (s : Setting) (es before : List Entry) → P before → EachAllowed s before es → P (before ++ es)
each_keeps P step s [] before p a = subst P (sym (append-nil before)) p
each_keeps P step s (x ∷ es) before p a = subst P (append_assoc before (x ∷ []) es) (each_keeps P step s es (before ++ x ∷ []) (step s before x p a.0) a.1)

-- entries that are allowed leave a log sane, also within an event
pub allowed_sane : (s : Setting) (log es : List Entry) → Legal s log → EachAllowed s log es → Sane (log ++ es)
allowed_sane s log es h a = record {
  driver = each_keeps (λ l. node_of 1 l ≡ Some 1) driver_step s es log (always (λ l. node_of 1 l ≡ Some 1) driver_step s log refl h) a;
  main = each_keeps (λ l. worker_of main_attempt l ≡ Some 1) main_step s es log (always (λ l. worker_of main_attempt l ≡ Some 1) main_step s log main_first h) a;
  serials = (each_keeps SerialsBound bound_step s es log (always SerialsBound bound_step s log bound_first h) a).0;
  grouped = (each_keeps SerialsBound bound_step s es log (always SerialsBound bound_step s log bound_first h) a).1;
  born = λ o k w e. (each_keeps BegunWell begun_step s es log (always BegunWell begun_step s log begun_first h) a o k w e).0;
  opened = λ o k w e. (each_keeps BegunWell begun_step s es log (always BegunWell begun_step s log begun_first h) a o k w e).1;
  ended = each_keeps EndedWell ended_step s es log (always EndedWell ended_step s log (λ a k c e. absurd (none_at k c e)) h) a;
  faulted = each_keeps FaultedWell faulted_step s es log (always FaultedWell faulted_step s log (λ a k l e. absurd (none_at k l e)) h) a;
  accepted = each_keeps AcceptedWell accepted_step s es log (always AcceptedWell accepted_step s log (λ a k b e. absurd (none_at k b e)) h) a;
  one_end = each_keeps EndsOnce over_step s es log (always EndsOnce over_step s log (λ a. omega arith) h) a;
  one_acceptance = each_keeps AcceptedOnce accepted_once s es log (always AcceptedOnce accepted_once s log (λ a. omega arith) h) a;
  one_resolution = each_keeps ResolvedOnce resolved_once s es log (always ResolvedOnce resolved_once s log (λ o. omega arith) h) a;
  one_release = each_keeps ReleasedOnce released_once s es log (always ReleasedOnce released_once s log (λ o. omega arith) h) a;
}

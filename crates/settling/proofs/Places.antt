-- A search from a place on: what stands there, and what comes after it.
use Rattle.std.proofs.Common.{◌≡◌, ℕ, zero, suc, ◌+◌, ◌-◌, ◌≤◌, Bool, true, false, if◌then◌else◌, List, [], ◌∷◌, length, drop, Option, Some, None, refl, sym, ap, ◌∙◌, arith, subst}
use Rattle.std.specs.Prelude.{◌&&◌, not, slice_get}
use Rattle.protocol_data.specs.Going.{AreAtRest, HaveNoneOut, has_going, has_out, is_going, is_out, may_commit, may_go}
use Rattle.protocol.specs.Refusals.{has_slot, is_ready_phase, is_ready_run, job_in_phase, job_in_run, job_out}
use Rattle.protocol.specs.Sets.{has}
use Rattle.protocol.specs.Settling.{first_false, first_job, first_ready, or_number}
use Rattle.protocol.specs.Tables.{Execution, HasEnded, HasFaulted, Out, Phase, Ready, Waits, Worker}
use Rattle.protocol.specs.Cluster.{ClusterState, node_at}
use Rattle.settling.specs.Turns.{is_next}

some_is : {X : Type 0} (x y : X) → Some x ≡ Some y → x ≡ y
some_is x y e = cc

one_more : {X : Type 0} (xs : List X) (x : X) (i : ℕ) → drop (suc i) (x ∷ xs) ≡ drop i xs
one_more xs x i = refl

drop_there : {X : Type 0} (xs : List X) (i : ℕ) (x : X) → slice_get xs i ≡ Some x → drop i xs ≡ x ∷ drop (suc i) xs
drop_there [] i x e = absurd cc
drop_there (y ∷ ys) zero x e = ap (λ z. z ∷ ys) (some_is y x e)
drop_there (y ∷ ys) (suc i) x e = drop_there ys i x e

pub item_next : {X : Type 0} (xs : List X) (i : ℕ) (x : X) → slice_get xs i ≡ Some x → drop i xs ≡ x ∷ drop (i + 1) xs
item_next xs i x e = let s : suc i ≡ i + 1 = omega arith in drop_there xs i x e ∙ ap (λ k. x ∷ drop k xs) s

pub none_past : {X : Type 0} (xs : List X) (i : ℕ) → length xs ≤ i → drop i xs ≡ []
none_past [] zero h = refl
none_past [] (suc i) h = refl
none_past (x ∷ xs) zero h = absurd (omega arith)
none_past (x ∷ xs) (suc i) h = none_past xs i (omega arith)

-- ---- messages

pub undelivered_there : (bs : List Bool) (i : ℕ) → slice_get bs i ≡ Some false → first_false (i + 1) (drop i bs) ≡ Some (i + 1)
undelivered_there bs i e = ap (first_false (i + 1)) (item_next bs i false e)

pub delivered_there : (bs : List Bool) (i : ℕ) → slice_get bs i ≡ Some true → first_false (i + 1) (drop i bs) ≡ first_false (i + 1 + 1) (drop (i + 1) bs)
delivered_there bs i e = ap (first_false (i + 1)) (item_next bs i true e)

pub none_further : (bs : List Bool) (i : ℕ) → length bs ≤ i → first_false (i + 1) (drop i bs) ≡ None
none_further bs i h = ap (first_false (i + 1)) (none_past bs i h)

-- ---- jobs

job_by : (but : List ℕ) (k : ℕ) (x : Worker) (b : Bool) (o : Option ℕ)
    → (if b then o else or_number (job_out x) o) ≡ or_number (if b then None else job_out x) o
job_by but k x true o = refl
job_by but k x false o = refl

job_step : (but : List ℕ) (i : ℕ) (xs : List Worker) (x : Worker) → slice_get xs i ≡ Some x
    → first_job but (i + 1) (drop i xs) ≡ or_number (if has but (i + 1) then None else job_out x) (first_job but (i + 1 + 1) (drop (i + 1) xs))
job_step but i xs x e = ap (first_job but (i + 1)) (item_next xs i x e) ∙ job_by but (i + 1) x (has but (i + 1)) (first_job but (i + 1 + 1) (drop (i + 1) xs))

pub job_there : (but : List ℕ) (i j : ℕ) (xs : List Worker) (x : Worker) → slice_get xs i ≡ Some x → (if has but (i + 1) then None else job_out x) ≡ Some j
    → first_job but (i + 1) (drop i xs) ≡ Some j
job_there but i j xs x e f = job_step but i xs x e ∙ ap (λ o. or_number o (first_job but (i + 1 + 1) (drop (i + 1) xs))) f

pub no_job_there : (but : List ℕ) (i : ℕ) (xs : List Worker) (x : Worker) → slice_get xs i ≡ Some x → (if has but (i + 1) then None else job_out x) ≡ None
    → first_job but (i + 1) (drop i xs) ≡ first_job but (i + 1 + 1) (drop (i + 1) xs)
no_job_there but i xs x e f = job_step but i xs x e ∙ ap (λ o. or_number o (first_job but (i + 1 + 1) (drop (i + 1) xs))) f

pub no_job_further : (but : List ℕ) (i : ℕ) (xs : List Worker) → length xs ≤ i → first_job but (i + 1) (drop i xs) ≡ None
no_job_further but i xs h = ap (first_job but (i + 1)) (none_past xs i h)

-- ---- workers at rest

true_false : true ≡ false → ⊥
true_false e = cc

none_at : {X : Type 0} (xs : List X) (i : ℕ) → slice_get xs i ≡ None → length xs ≤ i
none_at [] i e = omega arith
none_at (x ∷ xs) zero e = absurd cc
none_at (x ∷ xs) (suc i) e = omega (arith, none_at xs i e)

no_job_in_phase : (p : Phase) → is_out p ≡ false → job_in_phase p ≡ None
no_job_in_phase Ready e = refl
no_job_in_phase (Out j) e = absurd (true_false e)
no_job_in_phase (Waits o f) e = refl
no_job_in_phase (HasEnded cs) e = refl
no_job_in_phase (HasFaulted f) e = refl

no_job_in_run : (r : Option Execution) → has_out r ≡ false → job_in_run r ≡ None
no_job_in_run None e = refl
no_job_in_run (Some run) e = no_job_in_phase run.phase e

none_out : (b : Bool) (r : Option Execution) → (b && has_out r) ≡ false → (if b then job_in_run r else None) ≡ None
none_out true r e = no_job_in_run r e
none_out false r e = refl

left_out : (b : Bool) (o : Option ℕ) → o ≡ None → (if b then None else o) ≡ None
left_out true o e = refl
left_out false o e = e

-- a worker whose job isn't out has none
no_job_at_rest : (but : List ℕ) (k : ℕ) (x : Worker) → may_commit x ≡ false → (if has but k then None else job_out x) ≡ None
no_job_at_rest but k x e = left_out (has but k) (job_out x) (none_out x.is_live x.run e)

not_ready_phase : (p : Phase) → is_going p ≡ false → is_ready_phase p ≡ false
not_ready_phase Ready e = e
not_ready_phase (Out j) e = refl
not_ready_phase (Waits o f) e = refl
not_ready_phase (HasEnded cs) e = refl
not_ready_phase (HasFaulted f) e = refl

not_ready_run : (r : Option Execution) → has_going r ≡ false → is_ready_run r ≡ false
not_ready_run None e = refl
not_ready_run (Some run) e = not_ready_phase run.phase e

none_ready : (b : Bool) (r : Option Execution) (s t : Bool) → (b && has_going r) ≡ false → ((b && is_ready_run r && s) && t) ≡ false
none_ready true r s t e = ap (λ z. (z && s) && t) (not_ready_run r e)
none_ready false r s t e = refl

-- ---- ready workers

ready_step : (c : ClusterState) (but : List ℕ) (i : ℕ) (xs : List Worker) (x : Worker) → slice_get xs i ≡ Some x
    → first_ready c but (i + 1) (drop i xs) ≡ (if is_next c but (i + 1) x then Some (i + 1) else first_ready c but (i + 1 + 1) (drop (i + 1) xs))
ready_step c but i xs x e = ap (first_ready c but (i + 1)) (item_next xs i x e)

pub ready_there : (c : ClusterState) (but : List ℕ) (i : ℕ) (xs : List Worker) (x : Worker) → slice_get xs i ≡ Some x → is_next c but (i + 1) x ≡ true
    → first_ready c but (i + 1) (drop i xs) ≡ Some (i + 1)
ready_there c but i xs x e f = ready_step c but i xs x e ∙ ap (λ b. if b then Some (i + 1) else first_ready c but (i + 1 + 1) (drop (i + 1) xs)) f

pub none_ready_there : (c : ClusterState) (but : List ℕ) (i : ℕ) (xs : List Worker) (x : Worker) → slice_get xs i ≡ Some x → is_next c but (i + 1) x ≡ false
    → first_ready c but (i + 1) (drop i xs) ≡ first_ready c but (i + 1 + 1) (drop (i + 1) xs)
none_ready_there c but i xs x e f = ready_step c but i xs x e ∙ ap (λ b. if b then Some (i + 1) else first_ready c but (i + 1 + 1) (drop (i + 1) xs)) f

pub none_ready_further : (c : ClusterState) (but : List ℕ) (i : ℕ) (xs : List Worker) → length xs ≤ i → first_ready c but (i + 1) (drop i xs) ≡ None
none_ready_further c but i xs h = ap (first_ready c but (i + 1)) (none_past xs i h)

-- ---- workers at rest are passed over

-- a worker at rest isn't next
not_next : (c : ClusterState) (but : List ℕ) (k : ℕ) (x : Worker) → may_go x ≡ false → is_next c but k x ≡ false
not_next c but k x e = none_ready x.is_live x.run (has_slot k (node_at c x.node)) (not (has but k)) e

one_job_on : (but : List ℕ) (xs : List Worker) (i : ℕ) → ((x : Worker) → slice_get xs i ≡ Some x → may_commit x ≡ false)
    → first_job but (i + 1) (drop i xs) ≡ first_job but (i + 1 + 1) (drop (i + 1) xs)
one_job_on but xs i rest = by (slice_get xs i) refl
  where
    by : (o : Option Worker) → slice_get xs i ≡ o → first_job but (i + 1) (drop i xs) ≡ first_job but (i + 1 + 1) (drop (i + 1) xs)
    by None e =
        let h = none_at xs i e in
        ap (first_job but (i + 1)) (none_past xs i h) ∙ sym (ap (first_job but (i + 1 + 1)) (none_past xs (i + 1) (omega (arith, h))))
    by (Some x) e = no_job_there but i xs x e (no_job_at_rest but (i + 1) x (rest x e))

one_ready_on : (c : ClusterState) (but : List ℕ) (xs : List Worker) (i : ℕ) → ((x : Worker) → slice_get xs i ≡ Some x → may_go x ≡ false)
    → first_ready c but (i + 1) (drop i xs) ≡ first_ready c but (i + 1 + 1) (drop (i + 1) xs)
one_ready_on c but xs i rest = by (slice_get xs i) refl
  where
    by : (o : Option Worker) → slice_get xs i ≡ o → first_ready c but (i + 1) (drop i xs) ≡ first_ready c but (i + 1 + 1) (drop (i + 1) xs)
    by None e =
        let h = none_at xs i e in
        ap (first_ready c but (i + 1)) (none_past xs i h) ∙ sym (ap (first_ready c but (i + 1 + 1)) (none_past xs (i + 1) (omega (arith, h))))
    by (Some x) e = none_ready_there c but i xs x e (not_next c but (i + 1) x (rest x e))

jobs_by : (but : List ℕ) (xs : List Worker) (d i : ℕ) → HaveNoneOut xs i (i + d) → first_job but (i + 1) (drop i xs) ≡ first_job but (i + d + 1) (drop (i + d) xs)
jobs_by but xs zero i rest = let e : i + 0 ≡ i = omega arith in sym (ap (λ n. first_job but (n + 1) (drop n xs)) e)
jobs_by but xs (suc d) i rest =
    let e : i + 1 + d ≡ i + suc d = omega arith in
    one_job_on but xs i (λ x g. rest i x (omega arith) (omega arith) g)
    ∙ jobs_by but xs d (i + 1) (λ j x a b g. rest j x (omega (arith, a)) (omega (arith, b)) g)
    ∙ ap (λ n. first_job but (n + 1) (drop n xs)) e

readies_by : (c : ClusterState) (but : List ℕ) (xs : List Worker) (d i : ℕ) → AreAtRest xs i (i + d) →
    first_ready c but (i + 1) (drop i xs) ≡ first_ready c but (i + d + 1) (drop (i + d) xs)
readies_by c but xs zero i rest = let e : i + 0 ≡ i = omega arith in sym (ap (λ n. first_ready c but (n + 1) (drop n xs)) e)
readies_by c but xs (suc d) i rest =
    let e : i + 1 + d ≡ i + suc d = omega arith in
    one_ready_on c but xs i (λ x g. rest i x (omega arith) (omega arith) g)
    ∙ readies_by c but xs d (i + 1) (λ j x a b g. rest j x (omega (arith, a)) (omega (arith, b)) g)
    ∙ ap (λ n. first_ready c but (n + 1) (drop n xs)) e

pub jobs_on : (but : List ℕ) (xs : List Worker) (i k : ℕ) → i ≤ k → HaveNoneOut xs i k → first_job but (i + 1) (drop i xs) ≡ first_job but (k + 1) (drop k xs)
jobs_on but xs i k h rest =
    let e : i + (k - i) ≡ k = omega (arith, h) in
    jobs_by but xs (k - i) i (subst (λ n. HaveNoneOut xs i n) (sym e) rest) ∙ ap (λ n. first_job but (n + 1) (drop n xs)) e

pub readies_on : (c : ClusterState) (but : List ℕ) (xs : List Worker) (i k : ℕ) → i ≤ k → AreAtRest xs i k →
    first_ready c but (i + 1) (drop i xs) ≡ first_ready c but (k + 1) (drop k xs)
readies_on c but xs i k h rest =
    let e : i + (k - i) ≡ k = omega (arith, h) in
    readies_by c but xs (k - i) i (subst (λ n. AreAtRest xs i n) (sym e) rest) ∙ ap (λ n. first_ready c but (n + 1) (drop n xs)) e

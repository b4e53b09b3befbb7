-- Results of runs: as read, and of which kinds they are.
use Rattle.std.proofs.Common.{◌≡◌, ℕ, zero, suc, List, [], ◌∷◌, length, map, refl, sym, ap, ◌∙◌, subst}
use Rattle.meaning.specs.Values.{Value, Named, Known, Outcome, Birth, Put, Task, results_of, Id}
use Rattle.meaning.specs.Values.{Completion, Returned, Aborted, first_outcome, without_first, outcomes}
use Rattle.meaning.specs.Syntax.{Kind, RefKind, Script}
use Rattle.meaning.specs.Runs.{known, next_id, ids_from, named}
use Rattle.meaning.specs.Kinds.{EndsIn, EachOf, EachEndsIn, CompletesIn, IsBirthOf}
use Rattle.meaning.specs.Readings.{Reading, read, read_outcome, read_completion, read_birth}

-- ---- as read

module _ (reading : Reading) where
  pub first-read : (e : Completion) → first_outcome (read_completion reading e) ≡ read_outcome reading (first_outcome e)
  first-read (Returned []) = refl
  first-read (Returned (v ∷ vs)) = refl
  first-read (Aborted t) = refl

  pub without_first-read : (e : Completion) → without_first (read_completion reading e) ≡ read_completion reading (without_first e)
  without_first-read (Returned []) = refl
  without_first-read (Returned (v ∷ vs)) = refl
  without_first-read (Aborted t) = refl

  pub outcomes-read : (n : ℕ) (e : Completion) → outcomes n (read_completion reading e) ≡ map (read_outcome reading) (outcomes n e)
  outcomes-read zero e = refl
  outcomes-read (suc n) e =
      let first = first-read e in
      let others = ap (λ d. outcomes n d) (without_first-read e) ∙ outcomes-read n (without_first e) in
      cc

  pub results-read : (b : Birth) → results_of (read_birth reading b) ≡ results_of b
  results-read (Put v) = refl
  results-read (Task g args depth retries others) = refl

  pub names-read : (os : List Id) → map (read reading) (map Named os) ≡ map Known (map reading os)
  names-read [] = refl
  names-read (o ∷ os) = ap (λ vs. Known (reading o) ∷ vs) (names-read os)

-- ---- kinds

pub first_ends : (e : Completion) (t : Kind) (ts : List Kind) → CompletesIn e (t ∷ ts) → EndsIn (first_outcome e) t
first_ends (Returned []) t ts h = absurd h
first_ends (Returned (v ∷ vs)) t ts h = h.0
first_ends (Aborted e) t ts h = h

pub others_complete : (e : Completion) (t : Kind) (ts : List Kind) → CompletesIn e (t ∷ ts) → CompletesIn (without_first e) ts
others_complete (Returned []) t ts h = absurd h
others_complete (Returned (v ∷ vs)) t ts h = h.1
others_complete (Aborted e) t ts h = h

pub outcomes_end : (ts : List Kind) (e : Completion) → CompletesIn e ts → EachEndsIn (outcomes (length ts) e) ts
outcomes_end [] e h = tt
outcomes_end (t ∷ ts) e h = (first_ends e t ts h, outcomes_end ts (without_first e) (others_complete e t ts h))

known_each : (cs : List Outcome) (ts : List Kind) → EachEndsIn cs ts → EachOf (map Known cs) (map RefKind ts)
known_each [] [] h = tt
known_each [] (t ∷ ts) h = h
known_each (c ∷ cs) [] h = h
known_each (c ∷ cs) (t ∷ ts) h = (h.0, known_each cs ts h.1)

named_each : (o : Id) (ts : List Kind) → EachOf (map Named (ids_from o (length ts))) (map RefKind ts)
named_each o [] = tt
named_each o (t ∷ ts) = (tt, named_each (next_id o) ts)

one_kind : (v : Value) (us : List Kind) → EachOf (v ∷ []) us → suc zero ≡ length us
one_kind v [] h = absurd h
one_kind v (u ∷ []) h = refl
one_kind v (u ∷ w ∷ us) h = absurd h.1

-- a birth makes an object for each of its kinds
pub results_are : (script : Script) (b : Birth) (us : List Kind) → IsBirthOf script b us → results_of b ≡ length us
results_are script (Put v) us h = one_kind v us h
results_are script (Task g args depth retries others) us h = ap (λ n. suc n) (sym h.4) ∙ ap (λ (ts : List Kind). length ts) (sym h.3)

-- its references are of these kinds, serially and as ids
pub known_are : (script : Script) (b : Birth) (us : List Kind) (e : Completion) → IsBirthOf script b us → CompletesIn e us → EachOf (known b e) (map RefKind us)
known_are script b us e h k =
    subst (λ n. EachOf (map Known (outcomes n e)) (map RefKind us)) (sym (results_are script b us h))
    (known_each (outcomes (length us) e) us (outcomes_end us e k))

pub named_are : (script : Script) (b : Birth) (us : List Kind) (base : Id) → IsBirthOf script b us → EachOf (named base b) (map RefKind us)
named_are script b us base h =
    subst (λ n. EachOf (map Named (ids_from base n)) (map RefKind us)) (sym (results_are script b us h)) (named_each base us)

-- ---- as many references as results

outcomes_count : (n : ℕ) (e : Completion) → length (map Known (outcomes n e)) ≡ n
outcomes_count zero e = refl
outcomes_count (suc n) e = ap (λ m. suc m) (outcomes_count n (without_first e))

names_count : (n : ℕ) (o : Id) → length (map Named (ids_from o n)) ≡ n
names_count zero o = refl
names_count (suc n) o = ap (λ m. suc m) (names_count n (next_id o))

pub known_count : (b : Birth) (e : Completion) → length (known b e) ≡ results_of b
known_count b e = outcomes_count (results_of b) e

pub named_count : (base : Id) (b : Birth) → length (named base b) ≡ results_of b
named_count base b = names_count (results_of b) base

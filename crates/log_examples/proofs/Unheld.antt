-- A test of whether an object may be held: where it says no, it isn't.
use Rattle.std.proofs.Common.{◌≡◌, ℕ, zero, suc, Bool, true, false, List, [], ◌∷◌, Some, refl, ◌∙◌, ap}
use Rattle.std.specs.Prelude.{◌&&◌, ◌||◌, not, slice_get}
use Rattle.std.specs.List.{list_any}
use Rattle.meaning.specs.Values.{Id}
use Rattle.meaning.specs.Births.{same_id, is_made_by, objects_in, objects_at}
use Rattle.meaning.proofs.BirthLaws.{same_id-refl}
use Rattle.values.specs.Listed.{ids_in_outcome}
use Rattle.event_log.specs.Entries.{Attempt, Entry, Begun, Born, Got, Ended}
use Rattle.event_log.specs.Words.{same_attempt, births}
use Rattle.event_log.specs.Events.{is_live}
use Rattle.event_log.specs.Breaks.{Among}
use Rattle.event_log.specs.Holding.{is_one_of, is_anchored, ids_of_birth, ids_of_outcomes, are_released, is_open, Safe, Bore, Given, Gained, IsHeld, ByAttempt, ByBirth, ByContents}
use Rattle.event_log.proofs.WordLaws.{same_attempt-refl}

-- the entry may tell the attempt of the id
abbrev pub tells_of : Attempt → Id → Entry → Bool
tells_of a z (Born o b birth) = (is_made_by (record { object = o; birth = birth }) z && same_attempt b a) || (same_id o a.object && is_one_of (ids_of_birth birth) z)
tells_of a z (Got b y c) = same_attempt b a && is_one_of (ids_in_outcome c) z
tells_of a z _ = false

-- by the entry something may hold it
abbrev pub may_hold : Id → List Entry → Entry → Bool
may_hold z log (Begun a w) = is_anchored a.object log && (is_live w log && (is_open a log && list_any (tells_of a z) log))
may_hold z log (Born e b birth) = is_anchored e log && (not (are_released (objects_in (record { object = e; birth = birth })) log) && is_one_of (ids_of_birth birth) z)
may_hold z log (Ended a cs) = is_anchored a.object log && (not (are_released (objects_at (births log) a.object) log) && is_one_of (ids_of_outcomes cs) z)
may_hold z log _ = false

unfoldable pub may_be_held : Id → List Entry → Bool
may_be_held z log = list_any (may_hold z log) log

any_here : {X : Type 0} (p : X → Bool) (xs : List X) (k : ℕ) (x : X) → slice_get xs k ≡ Some x → p x ≡ true → list_any p xs ≡ true
any_here p [] k x e t = absurd (cc)
any_here p (y ∷ ys) zero x e t = let same : y ≡ x = cc in ap (λ b. b || list_any p ys) (ap p same ∙ t)
any_here p (y ∷ ys) (suc k) x e t = ap (λ b. p y || b) (any_here p ys k x e t) ∙ last (p y)
  where
    last : (b : Bool) → (b || true) ≡ true
    last true = refl
    last false = refl

any_among : {X : Type 0} (p : X → Bool) (xs : List X) (x : X) → Among x xs → p x ≡ true → list_any p xs ≡ true
any_among p xs x h t = any_here p xs h.0 x h.1 t

one_among : (ids : List Id) (z : Id) → Among z ids → is_one_of ids z ≡ true
unfolding is_one_of
one_among ids z h = any_among (λ o. same_id o z) ids z h (same_id-refl z)

both : (a b : Bool) → a ≡ true → b ≡ true → (a && b) ≡ true
both true b e f = f
both false b e f = e

left_or : (a b : Bool) → a ≡ true → (a || b) ≡ true
left_or true b e = refl
left_or false b e = absurd (cc)

right_or : (a b : Bool) → b ≡ true → (a || b) ≡ true
right_or true b e = refl
right_or false b e = e

safe_is_told : (log : List Entry) (a : Attempt) (z : Id) → Safe log a z → list_any (tells_of a z) log ≡ true
safe_is_told log a z (Bore d y o birth h m) =
    let made = is_made_by (record { object = o; birth = birth }) z in
    any_among (tells_of a z) log (Born o a birth) h
    (left_or (made && same_attempt a a) (same_id o a.object && is_one_of (ids_of_birth birth) z) (both made (same_attempt a a) m (same_attempt-refl a)))
safe_is_told log a z (Given d b y birth h m lives s) =
    any_among (tells_of a z) log (Born a.object b birth) h
    (right_or (is_made_by (record { object = a.object; birth = birth }) z && same_attempt b a) (same_id a.object a.object && is_one_of (ids_of_birth birth) z)
    (both (same_id a.object a.object) (is_one_of (ids_of_birth birth) z) (same_id-refl a.object) (one_among (ids_of_birth birth) z m)))
safe_is_told log a z (Gained d b y x c h m sy lives makes s) =
    any_among (tells_of a z) log (Got a y c) h (both (same_attempt a a) (is_one_of (ids_in_outcome c) z) (same_attempt-refl a) (one_among (ids_in_outcome c) z m))

held_may_be : (z : Id) (log : List Entry) → IsHeld z log → may_be_held z log ≡ true
unfolding may_be_held
held_may_be z log (ByAttempt a w h anchored lives open_so s) =
    any_among (may_hold z log) log (Begun a w) h
    (both (is_anchored a.object log) (is_live w log && (is_open a log && list_any (tells_of a z) log)) anchored
    (both (is_live w log) (is_open a log && list_any (tells_of a z) log) lives (both (is_open a log) (list_any (tells_of a z) log) open_so (safe_is_told log a z s))))
held_may_be z log (ByBirth e b birth h anchored there m s) =
    let kept = not (are_released (objects_in (record { object = e; birth = birth })) log) in
    any_among (may_hold z log) log (Born e b birth) h
    (both (is_anchored e log) (kept && is_one_of (ids_of_birth birth) z) anchored
    (both kept (is_one_of (ids_of_birth birth) z) (ap not there) (one_among (ids_of_birth birth) z m)))
held_may_be z log (ByContents a cs h anchored there counts m s) =
    let kept = not (are_released (objects_at (births log) a.object) log) in
    any_among (may_hold z log) log (Ended a cs) h
    (both (is_anchored a.object log) (kept && is_one_of (ids_of_outcomes cs) z) anchored
    (both kept (is_one_of (ids_of_outcomes cs) z) (ap not there) (one_among (ids_of_outcomes cs) z m)))

-- what may not be held isn't
pub not_held : {z : Id} {log : List Entry} → may_be_held z log ≡ false → IsHeld z log → ⊥
not_held {z} {log} e h = clash (may_be_held z log) e (held_may_be z log h)
  where
    clash : (b : Bool) → b ≡ false → b ≡ true → ⊥
    clash true f g = cc
    clash false f g = cc

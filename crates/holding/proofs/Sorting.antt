-- Facts by their kind.
use Rattle.std.proofs.Common.{◌≡◌, ℕ, Bool, true, false, List, [], ◌∷◌, inl, inr, ap, arith}
use Rattle.std.specs.Prelude.{◌==◌, ◌&&◌, not, if◌then◌else◌}
use Rattle.std.proofs.lemmas.Bool.{eq-eqb}
use Rattle.std.proofs.lemmas.Bool.Decides.{nat_tests}
use Rattle.holding.specs.Past.{Fact, Begun, Born, Got, Ended, Faulted, Over, Accepted, Released, Killed, Noticed, Added, Removed, Has, HasNot}
use Rattle.sequence.proofs.Places.{and_left, and_right}

-- a fact of a kind that the past has none of
abbrev pub kind : Fact → ℕ
kind (Begun a w) = 0
kind (Born o a put others ids) = 1
kind (Got a y ids) = 2
kind (Ended a contents) = 3
kind (Faulted a) = 4
kind (Over a) = 5
kind (Accepted a) = 6
kind (Released o) = 7
kind (Killed w) = 8
kind (Noticed w v) = 9
kind (Added e z) = 10
kind (Removed e z) = 11

abbrev pub lacks : ℕ → List Fact → Bool
lacks k [] = true
lacks k (f ∷ fs) = not (k == kind f) && lacks k fs

other_kind : (m n : ℕ) → not (m == n) ≡ true → m ≡ n → ⊥
other_kind m n h e = grind (arith, nat_tests)

pub has_none : (f : Fact) (fs : List Fact) → lacks (kind f) fs ≡ true → HasNot f fs
has_none f [] n h = h
has_none f (g ∷ gs) n (inl h) = other_kind (kind f) (kind g) (and_left (not (kind f == kind g)) (lacks (kind f) gs) n) (ap kind h)
has_none f (g ∷ gs) n (inr h) = has_none f gs (and_right (not (kind f == kind g)) (lacks (kind f) gs) n) h

-- those of a kind
abbrev pub of_kind : ℕ → List Fact → List Fact
of_kind k [] = []
of_kind k (f ∷ fs) = if k == kind f then f ∷ of_kind k fs else of_kind k fs

-- a fact is one of its kind
pub has_kind : (f : Fact) (fs : List Fact) → Has f fs → Has f (of_kind (kind f) fs)
has_kind f [] h = h
has_kind f (g ∷ gs) (inl h) = here (kind f == kind g) (eq-eqb (kind f) (kind g) (ap kind h))
  where
    here : (b : Bool) → b ≡ true → Has f (if b then g ∷ of_kind (kind f) gs else of_kind (kind f) gs)
    here true e = inl h
    here false e = absurd (cc)
has_kind f (g ∷ gs) (inr h) = later (kind f == kind g) (has_kind f gs h)
  where
    later : (b : Bool) → Has f (of_kind (kind f) gs) → Has f (if b then g ∷ of_kind (kind f) gs else of_kind (kind f) gs)
    later true k = inr k
    later false k = k

-- Which instructions stand at a place of the code, and which values the registers begin with.
use Rattle.std.proofs.Common.{
  ◌≡◌,
  ℕ,
  zero,
  suc,
  ◌+◌,
  ◌<◌,
  List,
  [],
  ◌∷◌,
  ◌++◌,
  length,
  take,
  Some,
  refl,
  sym,
  subst,
  arith,
  append-nil,
  append_assoc,
  length-append,
}
use Rattle.std.specs.Prelude.{slice_get, slice_set}
use Rattle.meaning.specs.Values.{Value}
use Rattle.frame_laws.specs.Instructions.{Instruction}
use Rattle.frame_laws.specs.Machine.{put_at, put_all}

-- the instructions stand in the code at this place
abbrev pub HasAt : List Instruction → ℕ → List Instruction → Type 0
HasAt code pc [] = Unit {0}
HasAt code pc (i ∷ is) = (slice_get code pc ≡ Some i) × HasAt code (pc + 1) is

pub has_front : (code : List Instruction) (pc : ℕ) (a b : List Instruction) → HasAt code pc (a ++ b) → HasAt code pc a
has_front code pc [] b h = tt
has_front code pc (i ∷ a) b h = (h.0, has_front code (pc + 1) a b h.1)

pub has_back : (code : List Instruction) (pc : ℕ) (a b : List Instruction) → HasAt code pc (a ++ b) → HasAt code (pc + length a) b
has_back code pc [] b h = let e : pc ≡ pc + 0 = omega arith in subst (λ n. HasAt code n b) e h
has_back code pc (i ∷ a) b h =
    let e : pc + 1 + length a ≡ pc + length (i ∷ a) = omega arith in
    subst (λ n. HasAt code n b) e (has_back code (pc + 1) a b h.1)

-- the registers begin with these values
abbrev pub Holds : List Value → List Value → Type 0
Holds low registers = (i : ℕ) (v : Value) → slice_get low i ≡ Some v → slice_get registers i ≡ Some v

pub get_append : {X : Type 0} (xs ys : List X) (k : ℕ) (x : X) → slice_get xs k ≡ Some x → slice_get (xs ++ ys) k ≡ Some x
get_append [] ys k x h = absurd (cc)
get_append (y ∷ xs) ys zero x h = h
get_append (y ∷ xs) ys (suc k) x h = get_append xs ys k x h

pub holds_less : (low more registers : List Value) → Holds (low ++ more) registers → Holds low registers
holds_less low more registers h i v e = h i v (get_append low more i v e)

-- the next register is written
pub holds_put : (low registers : List Value) (i : ℕ) (w : Value) → i ≡ length low → Holds low registers → Holds (low ++ w ∷ []) (put_at registers i w)
holds_put [] [] i w e h zero v g = g
holds_put [] [] i w e h (suc k) v g = absurd (cc)
holds_put [] (r ∷ registers) zero w e h zero v g = g
holds_put [] (r ∷ registers) zero w e h (suc k) v g = absurd (cc)
holds_put [] (r ∷ registers) (suc i) w e h k v g = absurd (omega arith)
holds_put (x ∷ low) [] i w e h k v g = absurd (let c = h zero x refl in cc)
holds_put (x ∷ low) (r ∷ registers) zero w e h k v g = absurd (omega arith)
holds_put (x ∷ low) (r ∷ registers) (suc i) w e h zero v g = h zero v g
holds_put (x ∷ low) (r ∷ registers) (suc i) w e h (suc k) v g = holds_put low registers i w (omega arith) (λ j u f. h (suc j) u f) k v g

-- the next registers are written
pub holds_put_all : (low registers : List Value) (i : ℕ) (ws : List Value) → i ≡ length low → Holds low registers → Holds (low ++ ws) (put_all registers i ws)
holds_put_all low registers i [] e h = subst (λ xs. Holds xs registers) (sym (append-nil low)) h
holds_put_all low registers i (w ∷ ws) e h =
    let next : i + 1 ≡ length (low ++ w ∷ []) = omega (arith, e, length-append low (w ∷ [])) in
    subst (λ xs. Holds xs (put_all (put_at registers i w) (i + 1) ws)) (append_assoc low (w ∷ []) ws)
    (holds_put_all (low ++ w ∷ []) (put_at registers i w) (i + 1) ws next (holds_put low registers i w e h))

-- a register that is held is written
pub holds_set : (low registers : List Value) (i : ℕ) (w : Value) → i < length low → Holds low registers → Holds (slice_set low i w) (put_at registers i w)
holds_set [] registers i w l h k v g = absurd (omega arith)
holds_set (x ∷ low) [] i w l h k v g = absurd (let c = h zero x refl in cc)
holds_set (x ∷ low) (r ∷ registers) zero w l h zero v g = g
holds_set (x ∷ low) (r ∷ registers) zero w l h (suc k) v g = h (suc k) v g
holds_set (x ∷ low) (r ∷ registers) (suc i) w l h zero v g = h zero v g
holds_set (x ∷ low) (r ∷ registers) (suc i) w l h (suc k) v g = holds_set low registers i w (omega arith) (λ j u f. h (suc j) u f) k v g

-- registers past the ones that are held are let go
pub holds_take : (low registers : List Value) → Holds low registers → Holds low (take (length low) registers)
holds_take [] registers h k v g = absurd (cc)
holds_take (x ∷ low) [] h k v g = absurd (let c = h zero x refl in cc)
holds_take (x ∷ low) (r ∷ registers) h zero v g = h zero v g
holds_take (x ∷ low) (r ∷ registers) h (suc k) v g = holds_take low registers (λ j u f. h (suc j) u f) k v g

-- Chunks of 64 items stay full where one is added, and a chunk that is shared adds its items.
use Rattle.std.proofs.Common.{◌≡◌, ℕ, ◌+◌, ◌<◌, List, [], ◌∷◌, ◌++◌, get_or, take, length, zero, suc, sym, ap, ◌∙◌, arith, append-nil, append_assoc}
use Rattle.std.proofs.lemmas.List.{flat_map_more}
use Rattle.std.specs.List.{flat_map}
use Rattle.std.specs.declared.sync.Arc.{Arc}
use Rattle.std.specs.declared.vec.Vec.{Vec}
use Rattle.trail.specs.Chunks.{AreFull, items_of}

-- one more full chunk
pub full_push : {T A B C : Type 0} (cs : List (Arc (Vec (Arc T A) B) C)) (c : Arc (Vec (Arc T A) B) C) → length (items_of c) ≡ 64 → AreFull cs → AreFull (cs ++ c ∷ [])
full_push [] c e f = (e, tt)
full_push (d ∷ cs) c e f = (f.0, full_push cs c e f.1)

pub full_at : {T A B C : Type 0} (cs : List (Arc (Vec (Arc T A) B) C)) (i : ℕ) (d : Arc (Vec (Arc T A) B) C) → i < length cs → AreFull cs → length (items_of (get_or cs i d)) ≡ 64
full_at [] i d l f = absurd (omega (arith, l))
full_at (c ∷ cs) zero d l f = f.0
full_at (c ∷ cs) (suc i) d l f = full_at cs i d (omega (arith, l)) f.1

taken_more : {X A : Type 0} (f : X → List A) (cs : List X) (i : ℕ) (d : X) → i < length cs → flat_map f (take (suc i) cs) ≡ flat_map f (take i cs) ++ f (get_or cs i d)
taken_more f [] i d l = absurd (omega (arith, l))
taken_more f (c ∷ cs) zero d l = append-nil (f c)
taken_more f (c ∷ cs) (suc i) d l =
    ap (λ ys. f c ++ ys) (taken_more f cs i d (omega (arith, l))) ∙ sym (append_assoc (f c) (flat_map f (take i cs)) (f (get_or cs i d)))

plus_one : (i : ℕ) → i + 1 ≡ suc i
plus_one i = omega arith

-- one more chunk is shared
pub shared_more : {X A : Type 0} (f : X → List A) (cs ds after : List X) (i : ℕ) (x d : X) → i < length cs → after ≡ ds ++ x ∷ [] → f x ≡ f (get_or cs i d) →
    flat_map f ds ≡ flat_map f (take i cs) → flat_map f after ≡ flat_map f (take (i + 1) cs)
shared_more f cs ds after i x d l e same so =
    ap (flat_map f) e ∙ sym (flat_map_more f [] ds x) ∙ ap (λ ys. ys ++ f x) so ∙ ap (λ ys. flat_map f (take i cs) ++ ys) same ∙ sym (ap (λ n. flat_map f (take n cs)) (plus_one i) ∙ taken_more f cs i d l)

-- A text is read as an object exactly where it is that object's text.
use Rattle.std.proofs.Common.{◌≡◌, ℕ, ◌<◌, ◌^◌, List, ◌∷◌, ◌++◌, Option, Some, None, refl, ap, ◌∙◌, arith}
use Rattle.std.specs.Prelude.{IfSome, codes}
use Rattle.std.specs.Fmt.{decimal}
use Rattle.ids.specs.Texts.{object_text, IsObject}
use Rattle.meaning.specs.Values.{Id}
use Rattle.event_files.specs.Reading.{both, parted, behind, number_in, object_of, object_in}
use Rattle.event_files.proofs.Decimals.{number_in-decimal, number_in-is, given_of, none_of}
use Rattle.event_files.proofs.Marks.{pick_keeps, map_keeps, behind-is, parted-at, parted-is, no_mark_in_decimal}

pub both-is : {A B : Type 0} (a : Option A) (b : Option B) (y : A × B) → both a b ≡ Some y → (a ≡ Some y.0) × (b ≡ Some y.1)
both-is None b y e = (cc, cc)
both-is (Some x) None y e = (cc, cc)
both-is (Some x) (Some z) y e = (cc, cc)

pub object_in-text : (o : Id) → IsObject o → object_in (object_text o) ≡ Some o
unfolding object_in
object_in-text o h =
    let dot = parted-at 46 (decimal o.owner) (decimal o.serial) (no_mark_in_decimal 46 o.owner (omega arith) (omega (arith, h.0))) in
    let owner = number_in-decimal 32 o.owner (omega (arith, h.0)) h.0 in
    let serial = number_in-decimal 64 o.serial h.1 h.1 in
    rw (dot, owner, serial) refl

pub object_in-is : (bytes : List ℕ) → IfSome (object_in bytes) (λ o. IsObject o × (bytes ≡ object_text o))
unfolding object_in
object_in-is bytes =
    pick_keeps P (behind (codes "o") bytes) _ None (λ rest e.
    pick_keeps P (parted 46 rest) _ None (λ x f.
    map_keeps P (both (number_in 32 x.0) (number_in 64 x.1)) _ (λ y g.
    let n = both-is (number_in 32 x.0) (number_in 64 x.1) y g in
    let owner = given_of (λ m. (m < 2 ^ 32) × (x.0 ≡ decimal m)) (number_in 32 x.0) y.0 (number_in-is 32 x.0) n.0 in
    let serial = given_of (λ m. (m < 2 ^ 64) × (x.1 ≡ decimal m)) (number_in 64 x.1) y.1 (number_in-is 64 x.1) n.1 in
    let parts = given_of _ (parted 46 rest) x (parted-is 46 rest) f in
    let front = behind-is (codes "o") bytes rest e in
    ((owner.0, serial.0), written bytes rest x y front parts.are owner.1 serial.1))) tt) tt
  where
    P : Id → Type 0
    P o = IsObject o × (bytes ≡ object_text o)

    written : (bytes rest : List ℕ) (x : List ℕ × List ℕ) (y : ℕ × ℕ) → bytes ≡ codes "o" ++ rest → rest ≡ x.0 ++ 46 ∷ x.1 → x.0 ≡ decimal y.0 → x.1 ≡ decimal y.1 → bytes ≡ object_text (object_of y.0 y.1)
    written bytes rest x y a b c d = a ∙ ap (λ r. codes "o" ++ r) (b ∙ ap (λ z. z ++ 46 ∷ x.1) c ∙ ap (λ z. decimal y.0 ++ 46 ∷ z) d)

pub no_object : (bytes : List ℕ) → ((o : Id) → IsObject o → bytes ≡ object_text o → ⊥) → object_in bytes ≡ None
no_object bytes h = none_of (λ o. IsObject o × (bytes ≡ object_text o)) (object_in bytes) (object_in-is bytes) (λ o k. h o k.0 k.1)

pub is_object : (o : Id) (bytes : List ℕ) → IsObject o → bytes ≡ object_text o → object_in bytes ≡ Some o
is_object o bytes h e = ap object_in e ∙ object_in-text o h

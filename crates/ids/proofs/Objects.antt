-- The parts of an object's text.
use Rattle.std.proofs.Common.{◌≡◌, ℕ, ◌-◌, false, true, List, ◌∷◌, ◌++◌, length, take, drop, Option, Some, sym, ap, ◌∙◌, subst, arith}
use Rattle.std.specs.Fmt.{decimal}
use Rattle.std.proofs.lemmas.List.{take_all}
use Rattle.ids.specs.Texts.{object_text, IsObject, has_dot}
use Rattle.meaning.specs.Values.{Id}
use Rattle.ids.proofs.Numbers.{no_dot_in_decimal, has_dot-between, one_parting}

-- what follows the first byte
abbrev pub behind : List ℕ → List ℕ
behind text = take (length text - 1) (drop 1 text)

behind-cons : (b : ℕ) (bs : List ℕ) → behind (b ∷ bs) ≡ bs
behind-cons b bs = take_all (length (b ∷ bs) - 1) bs (omega arith)

behind-text : (text : List ℕ) (o : Id) → text ≡ object_text o → behind text ≡ decimal o.owner ++ 46 ∷ decimal o.serial
behind-text text o e = subst (λ bs. behind bs ≡ decimal o.owner ++ 46 ∷ decimal o.serial) (sym e) (behind-cons 111 (decimal o.owner ++ 46 ∷ decimal o.serial))

pub text_has_dot : (text : List ℕ) (o : Id) → text ≡ object_text o → has_dot (behind text) ≡ false → ⊥
text_has_dot text o e h =
    let d : has_dot (behind text) ≡ true = ap has_dot (behind-text text o e) ∙ has_dot-between (decimal o.owner) (decimal o.serial) in
    cc

pub parts_of_text : (text p q : List ℕ) (o : Id) → IsObject o → text ≡ object_text o → has_dot p ≡ false → behind text ≡ p ++ 46 ∷ q → (p ≡ decimal o.owner) × (q ≡ decimal o.serial)
parts_of_text text p q o i e h f =
    one_parting p q (decimal o.owner) (decimal o.serial) h (no_dot_in_decimal o.owner (omega (arith, i.0))) (sym f ∙ behind-text text o e)

pub same_some : (m n : ℕ) (r : Option ℕ) → r ≡ Some m → r ≡ Some n → m ≡ n
same_some m n r e f = cc

pub object_parts : (w s : ℕ) (o : Id) → w ≡ o.owner → s ≡ o.serial → ◌≡◌ {A = Option Id} (Some (record { owner = w; serial = s })) (Some o)
object_parts w s o e f = ap (λ n. Some (record { owner = n; serial = s })) e ∙ ap (λ n. Some (record { owner = o.owner; serial = n })) f

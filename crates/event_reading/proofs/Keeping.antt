-- One more of what lines say is kept.
use Rattle.std.proofs.Common.{◌≡◌, ◌+◌, ◌<◌, ℕ, Bool, true, false, List, [], ◌∷◌, ◌++◌, length, sym, ap, ◌∙◌, arith}
use Rattle.std.specs.Prelude.{if◌then◌else◌}
use Rattle.std.proofs.lemmas.List.{length-append}
use Rattle.event_reading.specs.declared.kept.Kept.{Kept}
use Rattle.event_reading.specs.Kept.{IsKeptOf, IsKeptSo, count}

count_more : {A : Type 0} (counts : A → Bool) (says : List A) (said : A) → count counts (says ++ said ∷ []) ≡ count counts says + (if counts said then 1 else 0)
count_more counts [] said = omega arith
count_more counts (a ∷ says) said = let e = count_more counts says said in omega (arith, e)

pub pushed : {A : Type 0} (counts : A → Bool) (all : List A) (numbers : List ℕ) (k : Kept A) (says : List A) (kept : List ℕ) (said : A) (number after : ℕ) →
    says ≡ k.says ++ said ∷ [] → kept ≡ k.numbers ++ number ∷ [] → after ≡ k.events + (if counts said then 1 else 0) → (100000 < k.events → ⊥) →
    IsKeptOf counts all numbers k →
    IsKeptOf counts (all ++ said ∷ []) (numbers ++ number ∷ []) (record { says = says; numbers = kept; is_whole = k.is_whole; events = after })
pushed counts all numbers k says kept said number after e f g few = go k.is_whole
  where
    go : (whole : Bool) → IsKeptSo counts whole all numbers k.says k.numbers k.events →
        IsKeptSo counts whole (all ++ said ∷ []) (numbers ++ number ∷ []) says kept after
    go true h = record {
      said = ap (λ z. z ++ said ∷ []) h.said ∙ sym e;
      numbered = ap (λ z. z ++ number ∷ []) h.numbered ∙ sym f;
      same_length = (let m = ap length f ∙ length-append k.numbers (number ∷ []) in let n = ap length e ∙ length-append k.says (said ∷ []) in
          let l = h.same_length in omega (arith, m, n, l));
      counted = g ∙ ap (λ n. n + (if counts said then 1 else 0)) h.counted ∙ sym (ap (count counts) e ∙ count_more counts k.says said);
    }
    go false h = absurd (few h.enough)

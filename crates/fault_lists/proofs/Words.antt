-- The words of a text, from its first comma on.
use Rattle.std.proofs.Common.{◌≡◌, ℕ, suc, ◌<◌, ◌==◌, Bool, List, [], ◌∷◌, length, refl, sym, ap, ◌∙◌, arith}
use Rattle.std.specs.Prelude.{Contains}
use Rattle.std.specs.List.{after_first, before_first, position_or_len}
use Rattle.std.proofs.lemmas.List.Splits.{slice_split_first, slice_split_none}
use Rattle.std.proofs.lemmas.List.Sums.{fails_before_first}
use Rattle.fault_lists.specs.Kinds.{words_of}

abbrev is_comma : ℕ → Bool
is_comma c = c == 44

pub first_word : (text word behind : List ℕ) → word ≡ before_first is_comma text → behind ≡ after_first is_comma text →
    position_or_len is_comma text < length text → words_of text ≡ word ∷ words_of behind
first_word text word behind is left there =
    slice_split_first is_comma text 0 there ∙ ap (λ w. w ∷ words_of (after_first is_comma text)) (sym is) ∙ ap (λ t. word ∷ words_of t) (sym left)

pub behind_first : (word w : List ℕ) (words : List (List ℕ)) → Contains words w → Contains (word ∷ words) w
behind_first word w words h = (suc h.0, omega (arith, h.1), h.2)

pub is_first : (word : List ℕ) (words : List (List ℕ)) → Contains (word ∷ words) word
is_first word words = (0, omega arith, refl)

-- a text without a comma is its only word
pub last_word : (text : List ℕ) → position_or_len is_comma text ≡ length text → words_of text ≡ text ∷ []
last_word text none = slice_split_none is_comma text (λ k d m. fails_before_first is_comma text k d (omega (arith, m, none)))

-- Where a path is cut.
use Rattle.std.proofs.Common.{◌≡◌, ◌≢◌, ◌∙◌, ℕ, List, [], ◌∷◌, ◌++◌, take, drop, inr, refl, sym, ap, subst, arith}
use Rattle.std.specs.Prelude.{◌==◌}
use Rattle.std.specs.Str.{NoCharPasses}
use Rattle.std.specs.Str.Pattern.{HasCharAt}
use Rattle.std.proofs.lemmas.List.{take-append-drop}
use Rattle.std.proofs.lemmas.Str.Pattern.{NoCharPasses-char, drop_at_char}
use Rattle.raysim_files.specs.Paths.{HasNoSlash, IsSplit, folder_before}

pub no_slash : (text : List ℕ) → NoCharPasses (λ d. d == 47) text → HasNoSlash text
no_slash text h = λ i l. NoCharPasses-char 47 text i h (omega arith) l

parted : (path : List ℕ) (i j : ℕ) → HasCharAt 47 path i j → path ≡ take i path ++ 47 ∷ drop j path
parted path i j h = sym (take-append-drop i path) ∙ ap (λ z. take i path ++ z) (drop_at_char 47 path i j h (omega arith))

pub behind_slash : (path front name folder : List ℕ) (i j : ℕ) → HasCharAt 47 path i j → NoCharPasses (λ d. d == 47) (drop j path) → front ≡ take i path →
    name ≡ drop j path → folder ≡ folder_before front → IsSplit path folder name
behind_slash path front name folder i j h none before behind is_folder = inr (record {
  front = front;
  written = parted path i j h ∙ ap (λ z. z ++ 47 ∷ drop j path) (sym before) ∙ ap (λ z. front ++ 47 ∷ z) (sym behind);
  is_last = subst HasNoSlash (sym behind) (no_slash (drop j path) none);
  is_folder = is_folder;
})

pub some_before : (front : List ℕ) → front ≢ [] → front ≡ folder_before front
some_before [] some = absurd (some refl)
some_before (b ∷ front) some = refl

pub none_before : (front : List ℕ) → front ≡ [] → 47 ∷ [] ≡ folder_before front
none_before [] none = refl
none_before (b ∷ front) none = absurd (cc)

-- The last of a list, and of a job's answers.
use Rattle.std.proofs.Common.{◌≡◌, List, [], ◌∷◌, ◌++◌, map, refl, sym, ap, ◌∙◌, subst}
use Rattle.meaning.specs.Syntax.{Script}
use Rattle.meaning.specs.Values.{Outcome}
use Rattle.evaluation.specs.of_frames.Frames.{IsWaiting}
use Rattle.evaluation.specs.of_frames.declared.frame.Frame.{Frame}
use Rattle.segment.specs.Frames.{Fits, before_of}
use Rattle.segment.specs.Jobs.{JobParts}

head_same : {X : Type 0} (x y : X) (xs ys : List X) → x ∷ xs ≡ y ∷ ys → x ≡ y
head_same x y xs ys e = cc

tail_same : {X : Type 0} (x y : X) (xs ys : List X) → x ∷ xs ≡ y ∷ ys → xs ≡ ys
tail_same x y xs ys e = cc

nothing_last : {X : Type 0} (xs : List X) (x : X) → [] ≡ xs ++ x ∷ [] → ⊥
nothing_last [] x e = cc
nothing_last (y ∷ xs) x e = cc

-- two lists with one more behind each are the same only where both are
pub rest_same : {X : Type 0} (xs ys : List X) (x y : X) → xs ++ x ∷ [] ≡ ys ++ y ∷ [] → xs ≡ ys
rest_same [] [] x y e = refl
rest_same [] (z ∷ ys) x y e = absurd (nothing_last ys y (tail_same x z [] (ys ++ y ∷ []) e))
rest_same (w ∷ xs) [] x y e = absurd (nothing_last xs x (sym (tail_same w y (xs ++ x ∷ []) [] e)))
rest_same (w ∷ xs) (z ∷ ys) x y e =
    let same = rest_same xs ys x y (tail_same w z (xs ++ x ∷ []) (ys ++ y ∷ []) e) in
    ap (λ v. v ∷ xs) (head_same w z (xs ++ x ∷ []) (ys ++ y ∷ []) e) ∙ ap (λ vs. z ∷ vs) same

pub map_last : {A B : Type 0} (f : A → B) (xs : List A) (x : A) → map f (xs ++ x ∷ []) ≡ map f xs ++ f x ∷ []
map_last f [] x = refl
map_last f (y ∷ xs) x = ap (λ zs. f y ∷ zs) (map_last f xs x)

-- the job's task waits at the frame for the last of the job's answers
pub waits_last : (script : Script) (j : JobParts) (f : Frame) (rest : List Outcome) (answer : Outcome) → j.answers ≡ rest ++ answer ∷ [] → Fits script j f →
    IsWaiting script j.spec j.base (before_of j rest) f
waits_last script j f rest answer last fits =
    subst (λ cs. IsWaiting script j.spec j.base (before_of j cs) f) (rest_same fits.earlier rest fits.answer answer (sym fits.answers ∙ last)) fits.waits

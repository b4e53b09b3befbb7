-- The contents of a run's results, one after another.
use Rattle.std.proofs.Common.{◌≡◌, ℕ, zero, suc, ◌+◌, ◌-◌, ◌<◌, ◌≤◌, List, [], ◌∷◌, ◌++◌, refl, sym, ap, ◌∙◌, subst, inl, inr, arith, append_assoc, append-nil}
use Rattle.meaning.specs.Values as meant
use Rattle.meaning.specs.Values.{Completion, Aborted, Trapped, Broken, first_outcome, without_first, outcomes}
use Rattle.evaluation.specs.TaskValues.{IsTaskOutcome, AreTaskOutcomes}
use Rattle.evaluation.specs.Pieces.{HasBroken}

-- the next of those that are left
left_first : (now : Completion) (count counter : ℕ) → counter < count →
    outcomes (count - counter) now ≡ first_outcome now ∷ outcomes (count - (counter + 1)) (without_first now)
left_first now count counter h = let left : count - counter ≡ suc (count - (counter + 1)) = omega (arith, h) in ap (λ n. outcomes n now) left

pub contents_next : (cs more : List meant.Outcome) (c : meant.Outcome) (now next : Completion) (count counter : ℕ) (whole : List meant.Outcome) → counter < count →
    more ≡ cs ++ c ∷ [] → c ≡ first_outcome now → without_first now ≡ next →
    cs ++ outcomes (count - counter) now ≡ whole → more ++ outcomes (count - (counter + 1)) next ≡ whole
contents_next cs more c now next count counter whole h pushed is follows e =
    let rest = λ (d : Completion). outcomes (count - (counter + 1)) d in
    ap (λ xs. xs ++ rest next) pushed ∙ ap (λ d. (cs ++ c ∷ []) ++ rest d) (sym follows)
    ∙ append_assoc cs (c ∷ []) (rest (without_first now))
    ∙ ap (λ o. cs ++ o ∷ rest (without_first now)) is
    ∙ ap (λ os. cs ++ os) (sym (left_first now count counter h)) ∙ e

pub contents_end : (cs : List meant.Outcome) (now : Completion) (count counter : ℕ) (whole : List meant.Outcome) → count ≤ counter →
    cs ++ outcomes (count - counter) now ≡ whole → cs ≡ whole
contents_end cs now count counter whole h e =
    let none : count - counter ≡ 0 = omega (arith, h) in
    sym (append-nil cs) ∙ ap (λ n. cs ++ outcomes n now) (sym none) ∙ e

-- what is broken behind others is broken
broken_behind : (before : List meant.Outcome) (c : meant.Outcome) (others : List meant.Outcome) → c ≡ Trapped Broken → HasBroken (before ++ c ∷ others)
broken_behind [] c others is = inl is
broken_behind (b ∷ before) c others is = inr (broken_behind before c others is)

pub broken_next : (cs : List meant.Outcome) (now : Completion) (count counter : ℕ) (whole : List meant.Outcome) → counter < count →
    first_outcome now ≡ Trapped Broken → cs ++ outcomes (count - counter) now ≡ whole → HasBroken whole
broken_next cs now count counter whole h is e =
    subst HasBroken (ap (λ os. cs ++ os) (sym (left_first now count counter h)) ∙ e)
    (broken_behind cs (first_outcome now) (outcomes (count - (counter + 1)) (without_first now)) is)

task_behind : (before : List meant.Outcome) (c : meant.Outcome) (others : List meant.Outcome) → AreTaskOutcomes (before ++ c ∷ others) → IsTaskOutcome c
task_behind [] c others plain = plain.0
task_behind (b ∷ before) c others plain = task_behind before c others plain.1

pub task_next : (cs : List meant.Outcome) (now : Completion) (count counter : ℕ) (whole : List meant.Outcome) → counter < count →
    cs ++ outcomes (count - counter) now ≡ whole → AreTaskOutcomes whole → IsTaskOutcome (first_outcome now)
task_next cs now count counter whole h e plain =
    task_behind cs (first_outcome now) (outcomes (count - (counter + 1)) (without_first now))
    (subst AreTaskOutcomes (sym (ap (λ os. cs ++ os) (sym (left_first now count counter h)) ∙ e)) plain)

-- where there is a result, a broken run has a broken one
pub broken_some : (count : ℕ) → 1 ≤ count → HasBroken (outcomes count (Aborted Broken))
broken_some zero h = absurd (omega (arith, h))
broken_some (suc n) h = inl refl

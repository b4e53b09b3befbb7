-- So many turns of the settle rule, and one more; and what a turn's commit comes to.
use Rattle.std.proofs.Common.{◌≡◌, ◌∙◌, ℕ, suc, List, [], ◌∷◌, ◌++◌, length, Some, refl, sym, ap, subst, inr}
use Rattle.std.specs.Prelude.{slice_set}
use Rattle.meaning.specs.Syntax.{Script}
use Rattle.segment.specs.Jobs.{JobParts, Done, IsTrueOf}
use Rattle.event_log.specs.Entries.{Commit}
use Rattle.log_entries.specs.declared.refusal.Refusal.{Refusal}
use Rattle.protocol.specs.Settling.{next}
use Rattle.protocol_core.specs.Steps.{Reply, Refuses}
use Rattle.event_log.specs.Entries.{Event}
use Rattle.protocol_board.specs.Drives.{BreaksAfter, Commits, Course, Goes, IsNext, IsTaken, Turn, Turns}

pub no_turn : (script : Script) (c : Course) → Turns script 0 c c
unfolding Turns
no_turn script c = refl

next_turn : (script : Script) (n : ℕ) (before between after : Course) (e : Event) → Turns script n before between → IsNext between e → Turn script between e after → Turns script (suc n) before after
unfolding Turns
next_turn script n before between after e h named t = (between, e, h, named, t)

-- some turns, and one more
pub one_more : (script : Script) (before between after : Course) (e : Event) → ((n : ℕ) × Turns script n before between) → IsNext between e →
    Turn script between e after → (n : ℕ) × Turns script n before after
one_more script before between after e h named t = (suc h.0, next_turn script h.0 before between after e h.1 named t)

-- the rule names it, where nobody is left out
pub is_next : (c : Course) (but : List ℕ) (e : Event) → but ≡ [] → Some e ≡ next c.run.whole but → IsNext c e
is_next c but e none named = subst (λ b. next c.run.whole b ≡ Some e) none (sym named)

-- what was done on the job was committed
pub committed_so : (script : Script) (before after : Course) (job : JobParts) (work : Done) (number : ℕ) (told : Reply) → number ≡ job.number → work.job ≡ job → IsTrueOf script work →
    Goes before (Commit number) (Some work) after told → IsTaken told → Commits script before job after
committed_so script before after job work number told same own is_true goes taken =
    record { work = work; own = own; is_true = is_true; told = told; goes = subst (λ n. Goes before (Commit n) (Some work) after told) same goes; taken = taken }

pub broken_so : (script : Script) (before after : Course) (job : JobParts) (work : Done) (number : ℕ) (told : Reply) (refusal : Refusal) → number ≡ job.number → work.job ≡ job → IsTrueOf script work →
    Goes before (Commit number) (Some work) after told → told ≡ Refuses refusal → BreaksAfter script before job after refusal
broken_so script before after job work number told refusal same own is_true goes refused =
    inr (work, own, is_true, subst (λ n. Goes before (Commit n) (Some work) after (Refuses refusal)) same (subst (λ t. Goes before (Commit number) (Some work) after t) refused goes))

-- the last item is put in the place that was kept for it
set_last : (xs : List ℕ) (n m : ℕ) → slice_set (xs ++ m ∷ []) (length xs) n ≡ xs ++ n ∷ []
set_last [] n m = refl
set_last (x ∷ xs) n m = ap (λ t. x ∷ t) (set_last xs n m)

pub noted : (old mid new : List ℕ) (place n m : ℕ) → mid ≡ old ++ m ∷ [] → place ≡ length old → new ≡ slice_set mid place n → new ≡ old ++ n ∷ []
noted old mid new place n m kept at put =
    put ∙ ap (λ l. slice_set l place n) kept ∙ ap (λ k. slice_set (old ++ m ∷ []) k n) at ∙ set_last old n m

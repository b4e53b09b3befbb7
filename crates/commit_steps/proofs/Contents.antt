-- Contents that are kept one by one.
use Rattle.std.proofs.Common.{◌≡◌, ℕ, ℤ, zero, suc, ◌+◌, ◌<◌, Bool, true, if◌then◌else◌, List, [], ◌∷◌, ◌++◌, length, drop, slice_index_or, Some, refl, sym, ap, subst, ◌∙◌, arith}
use Rattle.std.specs.Prelude.{slice_get}
use Rattle.meaning.specs.Values.{Id, Int, Outcome, Trap, Trapped, Val}
use Rattle.meaning.specs.Runs.{next_id, past}
use Rattle.values.specs.Cells.{is_small}
use Rattle.protocol.specs.Stores.{with_ended, with_primary}
use Rattle.protocol.specs.Steps.{WorkerContext, store_here, with_store, with_worker}
use Rattle.protocol.specs.Holders.{holds_ids, passes_on}
use Rattle.commit_steps.specs.Plain.{ArePlain, IsPlain}
use Rattle.protocol.specs.Commits.{keeps_content, keeps_contents}

some_is : (x y : Outcome) → Some x ≡ Some y → x ≡ y
some_is x y e = cc

id_at : (o : ℕ) (s t : ℕ) → s ≡ t → ◌≡◌ {A = Id} (record { owner = o; serial = s }) (record { owner = o; serial = t })
id_at o s t e = cc

pub first_kept : (h : WorkerContext) (o : Id) (number : ℕ) (cs : List Outcome) → keeps_contents h (past o 0) number cs ≡ keeps_contents h o number cs
first_kept h o number cs = ap (λ p. keeps_contents h p number cs) (id_at o.owner (o.serial + 0) o.serial (omega arith))

pub next_kept : (h : WorkerContext) (o : Id) (i number : ℕ) (c : Outcome) (cs : List Outcome) →
    keeps_contents (keeps_content h (past o i) number c) (past o (i + 1)) number cs ≡ keeps_contents h (past o i) number (c ∷ cs)
next_kept h o i number c cs =
    ap (λ p. keeps_contents (keeps_content h (past o i) number c) p number cs) (id_at o.owner (o.serial + (i + 1)) (o.serial + i + 1) (omega arith))

-- ---- plain contents

none_added : {X : Type 0} (xs : List X) → xs ++ [] ≡ xs
none_added [] = refl
none_added (x ∷ xs) = ap (λ ys. x ∷ ys) (none_added xs)

small_stays : (h : WorkerContext) (o : Id) (number : ℕ) (c : Outcome) → is_small c ≡ true → with_store h (with_ended (store_here h) o number c) ≡ h
small_stays h o number c e = ap (λ b. with_store h (if b then store_here h else with_primary (store_here h) o number c)) e

none_passed : (h : WorkerContext) (o : Id) → passes_on h o [] ≡ h
none_passed h o = ap (λ xs. with_worker h (record h.worker { passed_on = xs })) (none_added h.worker.passed_on)

one_plain : (h : WorkerContext) (o : Id) (number : ℕ) (c : Outcome) → IsPlain c → keeps_content h o number c ≡ h
one_plain h o number c p =
    ap (λ ids. holds_ids (passes_on (with_store h (with_ended (store_here h) o number c)) o ids) o ids) p.none
    ∙ none_passed (with_store h (with_ended (store_here h) o number c)) o
    ∙ small_stays h o number c p.small

-- nothing of them is kept
pub plain_kept : (h : WorkerContext) (o : Id) (number : ℕ) (cs : List Outcome) → ArePlain cs → keeps_contents h o number cs ≡ h
plain_kept h o number [] p = refl
plain_kept h o number (c ∷ cs) p = ap (λ g. keeps_contents g (next_id o) number cs) (one_plain h o number c p.0) ∙ plain_kept h (next_id o) number cs p.1

pub trap_is_plain : (t : Trap) → IsPlain (Trapped t)
unfolding is_small
trap_is_plain t = record { small = refl; none = refl }

pub number_is_plain : (n : ℤ) → IsPlain (Val (Int n))
unfolding is_small
number_is_plain n = record { small = refl; none = refl }

pub one_is_all : (cs : List Outcome) (c : Outcome) → length cs ≡ 1 → slice_get cs 0 ≡ Some c → IsPlain c → ArePlain cs
one_is_all [] c l e p = absurd (omega (arith, l))
one_is_all (x ∷ []) c l e p = (subst IsPlain (some_is c x (sym e)) p, tt)
one_is_all (x ∷ y ∷ zs) c l e p = absurd (omega (arith, l))

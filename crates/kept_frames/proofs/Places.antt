-- Which attempts are kept behind a place that is set, emptied or taken.
use Rattle.std.proofs.Common.{◌≡◌, ℕ, zero, suc, List, [], ◌∷◌, Option, Some, None, inl, inr, sym, subst}
use Rattle.std.specs.Prelude.{slice_set}
use Rattle.segment.specs.Jobs.{Done, JobParts}
use Rattle.kept_frames.specs.Known.{IsAfter, IsOfJob, KeepsOnly, KeepsOr, KeepsWith, KnownData}

abbrev Kept : Type 0
Kept = List (Option KnownData)

some_of : {X : Type 0} (x y : X) → Some x ≡ Some y → x ≡ y
some_of x y e = cc

none_some : {X : Type 0} (x : X) → None ≡ Some x → ⊥
none_some x e = cc

-- a place that is set
pub set_so : (ks : Kept) (i : ℕ) (new : KnownData) → KeepsOr new ks (slice_set ks i (Some new))
set_so [] i new place k at = inl at
set_so (x ∷ ks) zero new zero k at = inr (sym (some_of new k (some_of (Some new) (Some k) at)))
set_so (x ∷ ks) zero new (suc place) k at = inl at
set_so (x ∷ ks) (suc i) new zero k at = inl at
set_so (x ∷ ks) (suc i) new (suc place) k at = set_so ks i new place k at

-- a place that is emptied
pub emptied : (ks : Kept) (i : ℕ) → KeepsOnly ks (slice_set ks i None)
emptied [] i place k at = at
emptied (x ∷ ks) zero zero k at = absurd (none_some k (some_of None (Some k) at))
emptied (x ∷ ks) zero (suc place) k at = at
emptied (x ∷ ks) (suc i) zero k at = at
emptied (x ∷ ks) (suc i) (suc place) k at = emptied ks i place k at

pub only_so : (j : JobParts) (before after : Kept) → KeepsOnly before after → KeepsWith j before after
only_so j before after h place k at = inl (h place k at)

pub or_so : (j : JobParts) (new : KnownData) (before after : Kept) → IsOfJob new j → KeepsOr new before after → KeepsWith j before after
or_so j new before after is h place k at = elim (h place k at) [ inl old ↦ inl old | inr e ↦ inr (subst (λ x. IsOfJob x j) (sym e) is) ]

pub only_or : (new : KnownData) (a b c : Kept) → KeepsOnly a b → KeepsOr new b c → KeepsOr new a c
only_or new a b c f g place k at = elim (g place k at) [ inl old ↦ inl (f place k old) | inr e ↦ inr e ]

-- what stood at a place is taken
pub taken_so : (j : JobParts) (before inside : Kept) (i : ℕ) (left : Option KnownData) → inside ≡ before → left ≡ None → KeepsWith j before (slice_set inside i left)
taken_so j before inside i left same none =
    subst (λ ks. KeepsWith j ks (slice_set inside i left)) same (subst (λ o. KeepsWith j inside (slice_set inside i o)) (sym none) (only_so j inside (slice_set inside i None) (emptied inside i)))

-- a place that is filled
pub put_so : (new : KnownData) (before inside : Kept) (i : ℕ) → inside ≡ before → KeepsOr new before (slice_set inside i (Some new))
put_so new before inside i same = subst (λ ks. KeepsOr new ks (slice_set inside i (Some new))) same (set_so inside i new)

-- what is known once a job was run is the job's attempt
pub kept_after : (first d : Done) (k new : KnownData) (before after : Kept) → d ≡ first → IsAfter k d → new ≡ k → KeepsOr new before after → KeepsWith first.job before after
kept_after first d k new before after same is e keeps =
    let of_job : IsOfJob k d.job = record { attempt = is.attempt; answers = is.answers } in
    or_so first.job new before after (subst (λ x. IsOfJob x first.job) (sym e) (subst (λ (x : Done). IsOfJob k x.job) same of_job)) keeps

-- what is kept with a job, and then with the same job
pub kept_then : (j i : JobParts) (a b c : Kept) → i ≡ j → KeepsWith j a b → KeepsWith i b c → KeepsWith j a c
kept_then j i a b c same f g place k at = elim (g place k at) [ inl old ↦ f place k old | inr is ↦ inr (subst (IsOfJob k) same is) ]

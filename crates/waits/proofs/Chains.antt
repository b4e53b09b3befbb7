-- A chain of links is its first link and the chain behind that.
use Rattle.std.proofs.Common.{◌≡◌, ℕ, zero, suc, List, [], ◌∷◌, ◌++◌, Option, Some, None, refl, ap, ◌∙◌, append_assoc, sym}
use Rattle.std.proofs.lemmas.List.{append-nil}
use Rattle.protocol_data.specs.declared.cluster_state.ClusterState.{ClusterState}
use Rattle.waits.specs.declared.link.Link.{Link}
use Rattle.waits.specs.Links.{chain, next_link}

one_link : (c : ClusterState) (m : ℕ) (l : Link) → chain c (suc m) (Some l) ≡ l ∷ chain c m (next_link c l)
unfolding chain
one_link c m l = refl

-- one more link is added, and those behind it
pub one_more : (c : ClusterState) (n m : ℕ) (o : Option Link) (l : Link) (next : Option Link) (old mid new : List Link) → o ≡ Some l → n ≡ suc m → next ≡ next_link c l →
    mid ≡ old ++ l ∷ [] → new ≡ mid ++ chain c m next → new ≡ old ++ chain c n o
one_more c n m o l next old mid new is e same pushed rest =
    rest ∙ ap (λ xs. xs ++ chain c m next) pushed ∙ append_assoc old (l ∷ []) (chain c m next)
    ∙ ap (λ o. old ++ (l ∷ chain c m o)) same ∙ ap (λ xs. old ++ xs) (sym (one_link c m l)) ∙ ap (λ k. old ++ chain c k (Some l)) (sym e)
    ∙ ap (λ p. old ++ chain c n p) (sym is)

no_link : (c : ClusterState) (n : ℕ) → chain c n None ≡ []
unfolding chain
no_link c zero = refl
no_link c (suc n) = refl

no_room : (c : ClusterState) (o : Option Link) → chain c 0 o ≡ []
unfolding chain
no_room c o = refl

pub none_more : (c : ClusterState) (n : ℕ) (old : List Link) → old ≡ old ++ chain c n None
none_more c n old = sym (ap (λ xs. old ++ xs) (no_link c n) ∙ append-nil old)

pub no_more : (c : ClusterState) (o : Option Link) (old : List Link) → old ≡ old ++ chain c 0 o
no_more c o old = sym (ap (λ xs. old ++ xs) (no_room c o) ∙ append-nil old)

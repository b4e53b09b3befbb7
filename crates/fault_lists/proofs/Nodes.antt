-- The lists with a fault at each node, from none to one node more.
use Rattle.std.proofs.Common.{◌≡◌, ℕ, suc, ◌+◌, [], ◌∷◌, ◌++◌, refl, ap, ◌∙◌, arith}
use Rattle.meaning.specs.Values.{Id}
use Rattle.event_log.specs.Entries.{Evict, Lose, KillNode}
use Rattle.fault_lists.specs.Lists.{alone, evictions, losses, node_deaths}

one_more : (n : ℕ) → n + 1 ≡ suc n
one_more n = omega arith

pub no_node_deaths : (place : ℕ) → node_deaths place 0 ≡ []
unfolding node_deaths
no_node_deaths place = refl

next_node_death : (place n : ℕ) → node_deaths place (suc n) ≡ node_deaths place n ++ alone place (KillNode (suc n)) ∷ []
unfolding node_deaths
next_node_death place n = refl

pub one_node_death_more : (place n : ℕ) → node_deaths place (n + 1) ≡ node_deaths place n ++ alone place (KillNode (n + 1)) ∷ []
one_node_death_more place n =
    ap (λ m. node_deaths place m) (one_more n) ∙ next_node_death place n ∙ ap (λ m. node_deaths place n ++ alone place (KillNode m) ∷ []) (omega arith)

pub no_losses : (place : ℕ) (o : Id) → losses place o 0 ≡ []
unfolding losses
no_losses place o = refl

next_loss : (place : ℕ) (o : Id) (n : ℕ) → losses place o (suc n) ≡ losses place o n ++ alone place (Lose (suc n) o) ∷ []
unfolding losses
next_loss place o n = refl

pub one_loss_more : (place : ℕ) (o : Id) (n : ℕ) → losses place o (n + 1) ≡ losses place o n ++ alone place (Lose (n + 1) o) ∷ []
one_loss_more place o n =
    ap (λ m. losses place o m) (one_more n) ∙ next_loss place o n ∙ ap (λ m. losses place o n ++ alone place (Lose m o) ∷ []) (omega arith)

pub no_evictions : (place : ℕ) (o : Id) → evictions place o 0 ≡ []
unfolding evictions
no_evictions place o = refl

next_eviction : (place : ℕ) (o : Id) (n : ℕ) → evictions place o (suc n) ≡ evictions place o n ++ alone place (Evict (suc n) o) ∷ []
unfolding evictions
next_eviction place o n = refl

pub one_eviction_more : (place : ℕ) (o : Id) (n : ℕ) → evictions place o (n + 1) ≡ evictions place o n ++ alone place (Evict (n + 1) o) ∷ []
one_eviction_more place o n =
    ap (λ m. evictions place o m) (one_more n) ∙ next_eviction place o n ∙ ap (λ m. evictions place o n ++ alone place (Evict m o) ∷ []) (omega arith)

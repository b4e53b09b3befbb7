-- The first lease of a worker is the one that is found.
use Rattle.std.proofs.Common.{◌≡◌, ℕ, ◌∷◌, [], Bool, true, false, List, Some, refl, cond}
use Rattle.std.specs.Prelude.{◌==◌}
use Rattle.std.specs.List.{find}
use Rattle.std.specs.Option.{option_map}
use Rattle.protocol_data.specs.declared.node.Lease.{Lease}
use Rattle.state_text.specs.Workers.{lease_in}

pub lease_found : (w : ℕ) (ls : List Lease) → option_map (λ l. l.attempt) (find (λ l. l.worker == w) ls) ≡ lease_in w ls
lease_found w [] = refl
lease_found w (l ∷ ls) = by_test (lease_found w ls) (l.worker == w)
  where
    by_test : option_map (λ l. l.attempt) (find (λ l. l.worker == w) ls) ≡ lease_in w ls →
        (b : Bool) → option_map (λ l. l.attempt) (cond b (Some l) (find (λ l. l.worker == w) ls)) ≡ cond b (Some l.attempt) (lease_in w ls)
    by_test rest true = refl
    by_test rest false = rest

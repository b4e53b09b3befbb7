-- What is written in two steps.
use Rattle.std.proofs.Common.{◌≡◌, ℕ, List, ◌++◌, ap, ◌∙◌, append_assoc}
use Rattle.std.specs.Prelude.{Result, Ok, Err, OnOk}

-- what is written behind the first step
pub both_written : {X E : Type 0} (old mid new a b : List ℕ) (r : Result X E) →
    mid ≡ old ++ a → OnOk r (new ≡ mid ++ b) → OnOk r (new ≡ old ++ (a ++ b))
both_written old mid new a b (Ok x) e f = f ∙ ap (λ t. t ++ b) e ∙ append_assoc old a b
both_written old mid new a b (Err y) e f = f

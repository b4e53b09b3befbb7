-- The first-born of some, looked for beside the first of them.
use Rattle.std.proofs.Common.{◌≡◌, Bool, List, true, false, refl, ap, if◌then◌else◌, ◌∷◌}
use Rattle.std.specs.Prelude.{nat_lt}
use Rattle.meaning.specs.Values.{Id}
use Rattle.protocol.specs.Holders.{first_born}

same : (b : Bool) (e : Id) → (if b then e else e) ≡ e
same true e = refl
same false e = refl

-- the first one more makes no difference
pub again : (e : Id) (es : List Id) → first_born e (e ∷ es) ≡ first_born e es
again e es = ap (λ d. first_born d es) (same (nat_lt e.serial e.serial) e)

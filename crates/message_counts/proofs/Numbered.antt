-- Items counted from 1.
use Rattle.std.proofs.Common.{◌≡◌, ◌∙◌, ℕ, suc, List, None, Some, ap, length, ◌≤◌}
use Rattle.std.specs.Prelude.{slice_get}
use Rattle.std.proofs.lemmas.Option.{slice_get_past}
use Rattle.event_log.specs.Events.{from_one}

-- the item of a number stands at the place before it
pub item_there : {X : Type 0} (xs : List X) (i n : ℕ) (x : X) → n ≡ suc i → slice_get xs i ≡ Some x → from_one xs n ≡ Some x
item_there xs i n x e g = ap (from_one xs) e ∙ g

pub no_item : {X : Type 0} (xs : List X) (i n : ℕ) → n ≡ suc i → length xs ≤ i → from_one xs n ≡ None
no_item xs i n e h = ap (from_one xs) e ∙ slice_get_past xs i h

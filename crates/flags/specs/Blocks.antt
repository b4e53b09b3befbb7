-- Flags by place, in blocks of 16.
use Rattle.std.specs.Prelude.{Bool, List, Some, false, length, slice_get, true, ℕ, ◌*◌, ◌/◌, ◌<◌, ◌≡◌, ◌≤◌}

-- no flag from the one place to before the other is up
abbrev pub AreDown : List Bool → ℕ → ℕ → Type 0
AreDown fs from to = (i : ℕ) (b : Bool) → from ≤ i → i < to → slice_get fs i ≡ Some b → b ≡ false

-- no flag of the block in which the place is is up
abbrev pub NoneIsUp : List Bool → ℕ → Type 0
NoneIsUp fs place = (i : ℕ) (b : Bool) → i / 16 ≡ place / 16 → slice_get fs i ≡ Some b → b ≡ false

-- each flag is in a block, and of each that is up the block is marked
pub record IsSummedUp (fs blocks : List Bool) : Type 0 where
  pub marked : (i : ℕ) → slice_get fs i ≡ Some true → slice_get blocks (i / 16) ≡ Some true
  pub long : length fs ≤ 16 * length blocks

-- no flag before the one place is up, and none from the other on
pub record AreWithin (fs : List Bool) (first end : ℕ) : Type 0 where
  pub before : AreDown fs 0 first
  pub behind : (i : ℕ) (b : Bool) → end ≤ i → slice_get fs i ≡ Some b → b ≡ false

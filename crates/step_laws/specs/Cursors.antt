-- A cursor into the messages.
use Rattle.std.specs.Prelude.{Bool, List, Some, slice_get, true, ℕ, ◌<◌, ◌≡◌}

-- each message before the place was delivered
abbrev pub IsPast : ℕ → List Bool → Type 0
IsPast k bs = (i : ℕ) → i < k → slice_get bs i ≡ Some true

-- it stands at the first message that was never delivered, or behind all of them
pub record IsAtFirst (k : ℕ) (bs : List Bool) : Type 0 where
  pub past : IsPast k bs
  pub stops : slice_get bs k ≡ Some true → ⊥

-- there is one such place
abbrev pub OneFirst : Type 0
OneFirst = (i k : ℕ) (bs : List Bool) → IsAtFirst i bs → IsAtFirst k bs → i ≡ k

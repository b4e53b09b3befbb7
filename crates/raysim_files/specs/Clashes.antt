-- Names of which a write would lose a file.
use Rattle.std.specs.Prelude.{◌≡◌, ◌<◌, ◌≤◌, ℕ, List, length, slice_index_or}
use Rattle.raysim_files.specs.declared.place.FilePlace.{FilePlace}
use Rattle.raysim_files.specs.declared.place.FilePlace.TheVariants.{Other, File, New}
use Rattle.raysim_files.specs.declared.clash.Clash.{Clash}

-- two names stand for one file: one that is there, or one that a write would make
abbrev pub IsOneFile : FilePlace → FilePlace → Type 0
IsOneFile (File device node) (File other_device other_node) = (device ≡ other_device) × (node ≡ other_node)
IsOneFile (New device node name) (New other_device other_node other_name) = (device ≡ other_device) × (node ≡ other_node) × (name.now ≡ other_name.now)
IsOneFile _ _ = ⊥

-- the names at two places of a list stand for one file
abbrev pub AreOne : List FilePlace → ℕ → ℕ → Type 0
AreOne places i k = IsOneFile (slice_index_or places i Other) (slice_index_or places k Other)

-- no name before the place `i` stands for the file of the name at `k`
abbrev pub NoneBefore : List FilePlace → ℕ → ℕ → Type 0
NoneBefore places i k = (j : ℕ) → j < i → AreOne places j k → ⊥

-- each name from `kept` on up to `later` is the first of its file
abbrev pub NoneClashes : List FilePlace → ℕ → ℕ → Type 0
NoneClashes places kept later = (k : ℕ) → kept ≤ k → k < later → NoneBefore places k k

-- the later name is the first from `kept` on that isn't the first of its file, and the earlier one is that
pub record IsFirstClash (places : List FilePlace) (kept : ℕ) (clash : Clash) : Type 0 where
  pub written : (kept ≤ clash.later) × (clash.later < length places)
  pub before : clash.earlier < clash.later
  pub same : AreOne places clash.earlier clash.later
  pub earliest : NoneBefore places clash.earlier clash.later
  pub first_such : NoneClashes places kept clash.later

-- Which kinds of faults a text names.
use Rattle.std.specs.Prelude.{◌≡◌, ◌≢◌, ◌⊎◌, ◌==◌, ℕ, true, false, List, [], ◌∷◌, codes}
use Rattle.std.specs.List.{slice_split}
use Rattle.fault_lists.specs.declared.choice.FaultChoice.{FaultChoice}

-- the words of a text, with commas (44) between them
abbrev pub words_of : List ℕ → List (List ℕ)
words_of text = slice_split (λ c. c == 44) text

abbrev pub no_faults : FaultChoice
no_faults = record { kill = false; told_kill = false; kill_node = false; lose = false; evict = false }

-- the word names a kind, which is chosen too
abbrev pub IsWith : List ℕ → FaultChoice → FaultChoice → Type 0
IsWith word before after =
    ((word ≡ codes "kill") × (after ≡ record before { kill = true }))
    ⊎ ((word ≡ codes "notice") × (after ≡ record before { told_kill = true }))
    ⊎ ((word ≡ codes "kill-node") × (after ≡ record before { kill_node = true }))
    ⊎ ((word ≡ codes "lose") × (after ≡ record before { lose = true }))
    ⊎ ((word ≡ codes "evict") × (after ≡ record before { evict = true }))

-- it names none
pub record ChoosesNone (word : List ℕ) : Type 0 where
  pub kill : word ≢ codes "kill"
  pub notice : word ≢ codes "notice"
  pub kill_node : word ≢ codes "kill-node"
  pub lose : word ≢ codes "lose"
  pub evict : word ≢ codes "evict"

-- word by word each names a kind, and these are chosen
abbrev pub Chooses : List (List ℕ) → FaultChoice → FaultChoice → Type 0
Chooses [] before after = after ≡ before
Chooses (word ∷ words) before after = (next : FaultChoice) × IsWith word before next × Chooses words next after

-- A run bears, prints, needs and ends with only such ids as it was given: ids of a set stay in the set.
use Rattle.std.proofs.Common.{ℕ}
use Rattle.meaning.specs.Values.{Value, Int, Items, Named, Known, Outcome, Completion, outcomes, Birth, Id}
use Rattle.meaning.specs.Syntax.{Script}
use Rattle.meaning.specs.Runs.{Run}
use Rattle.meaning.specs.Meaning.{run_birth}
use Rattle.meaning.specs.Ids.{ValueIn, OutcomesIn, BirthIn}
use Rattle.script_laws.proofs.Keeping.{ReferenceWith, CompletionWith, KeepsWith}
use Rattle.script_laws.proofs.Keeping as keeping

abbrev AnyOutcome : Outcome → Type 0
AnyOutcome c = Unit {0}

module _ (P : Id → Type 0) where
  -- whatever a run is given of the set, it gives only of the set
  abbrev pub Keeps : Run → Type 0
  Keeps run = KeepsWith P AnyOutcome run

  -- so is what it needs
  pub needs_in : (r : Value) → ReferenceWith P AnyOutcome r → ValueIn P r
  needs_in (Int n) h = tt
  needs_in (Items vs) h = absurd h
  needs_in (Named o) h = h
  needs_in (Known c) h = h

  -- so are the outcomes of its results
  pub outcomes_keep : (n : ℕ) (e : Completion) → CompletionWith P AnyOutcome e → OutcomesIn P (outcomes n e)
  outcomes_keep n e h = keeping.outcomes_with P AnyOutcome n e h

  -- what a birth does keeps to the ids in the birth
  pub births_keep : (script : Script) (b : Birth) → BirthIn P b → Keeps (run_birth script b)
  births_keep script b h = keeping.births_keep P AnyOutcome script b h

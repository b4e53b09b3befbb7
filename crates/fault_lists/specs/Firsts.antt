-- The first of some lists, which are kept, and how many there are.
use Rattle.std.specs.Prelude.{◌≡◌, ◌++◌, ℕ, List, length, take}
use Rattle.event_log.specs.Entries.{Entry}
use Rattle.faulted_history.specs.declared.fault_list.FaultList.{FaultList}
use Rattle.fault_lists.specs.declared.choice.FaultChoice.{FaultChoice}
use Rattle.fault_lists.specs.declared.first_lists.FirstLists.{FirstLists}
use Rattle.fault_lists.specs.declared.seen.Seen.{Seen}
use Rattle.fault_lists.specs.Lists.{lists_from}

-- of all these the first are kept, and all are counted
pub record Keeps (k : FirstLists) (all : List FaultList) : Type 0 where
  pub first : k.first ≡ take k.most all
  pub count : k.count ≡ length all

-- whichever lists there were, these come behind them, and as many are kept at most
pub record Adds (before : FirstLists) (more : List FaultList) (after : FirstLists) : Type 0 where
  pub most : after.most ≡ before.most
  pub keeps : (all : List FaultList) → Keeps before all → Keeps after (all ++ more)

-- of the lists of what is left of a log those are added that aren't of what is left behind
pub record AddsBefore (choice : FaultChoice) (left : List Entry) (place : ℕ) (seen : Seen) (before : FirstLists) (behind : List Entry) (next : ℕ) (then : Seen)
    (after : FirstLists) : Type 0 where
  pub more : List FaultList
  pub adds : Adds before more after
  pub whole : lists_from choice place seen left ≡ more ++ lists_from choice next then behind

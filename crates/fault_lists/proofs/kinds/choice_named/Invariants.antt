use denote.Shadow.{shadow}
use denote.Text.{Utf8}
use Rattle.std.proofs.Common.{List, ℕ, length}
use Rattle.std.specs.Prelude.{Contains}
use Rattle.fault_lists.specs.declared.choice.FaultChoice.{FaultChoice}
use Rattle.fault_lists.specs.Kinds.{Chooses, no_faults, words_of}
use Rattle.fault_lists.proofs.kinds.choice_named.Given as goal

-- the rest is text; what is left to be chosen by it is all that the whole text chooses; and its words are words of that
abbrev pub invariant-loop-word : goal.invariant-loop-word
invariant-loop-word l = record {
  text : shadow (Utf8 l.rest);
  chosen : (after : FaultChoice) → Chooses (words_of l.rest) l.choice after → Chooses (words_of l.text) no_faults after;
  words : (word : List ℕ) → Contains (words_of l.rest) word → Contains (words_of l.text) word;
}

-- the rest is shorter each time
abbrev pub decreases-loop-word : goal.decreases-loop-word
decreases-loop-word l = length l.rest

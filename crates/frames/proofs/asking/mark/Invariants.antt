use Rattle.std.proofs.Common.{◌≡◌, ◌++◌, map, drop, length}
use Rattle.meaning.specs.Meaning.{mark}
use Rattle.frames.specs.Values.{value_of}
use Rattle.frames.specs.Machines.{argument_of}
use Rattle.frames.proofs.asking.mark.Given as goal

-- the arguments so far, marked, with those that are left
abbrev pub invariant-loop-value : goal.invariant-loop-value
invariant-loop-value l = record {
  count : length l.arguments ≡ l.value-index;
  left : mark (map value_of l.values) l.marks ≡ map argument_of l.arguments ++ mark (map value_of (drop l.value-index l.values))
      (drop l.value-index l.marks);
}

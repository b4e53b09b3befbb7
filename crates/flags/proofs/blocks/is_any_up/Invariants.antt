use Rattle.std.proofs.Common.{◌-◌, ◌%◌}
use Rattle.flags.specs.Blocks.{AreDown}
use Rattle.flags.proofs.blocks.is_any_up.Given as goal

abbrev pub invariant-loop-other : goal.invariant-loop-other
invariant-loop-other l = AreDown l.flags (l.place - l.place % 16) l.other

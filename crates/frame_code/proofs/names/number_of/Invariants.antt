use Rattle.std.proofs.Common.{◌≡◌, ◌≤◌, ◌+◌, ◌-◌, length, drop}
use Rattle.frame_laws.specs.Compile.{number_of}
use Rattle.script_check.specs.Trees.{script_of}
use Rattle.frame_code.proofs.names.number_of.Given as goal

-- no function so far has the name
abbrev pub invariant-loop-number : goal.invariant-loop-number
invariant-loop-number l = record {
  within : l.number ≤ length l.script;
  left : l.number + number_of (script_of (drop l.number l.script)) l.name l.count ≡ number_of (script_of l.script) l.name l.count;
}

abbrev pub decreases-loop-number : goal.decreases-loop-number
decreases-loop-number l = length l.script - l.number

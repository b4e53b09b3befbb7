use Rattle.std.proofs.Common.{◌≡◌, map, drop}
use Rattle.script_check.specs.Trees.{script_of}
use Rattle.frames.specs.Machines.{argument_of}
use Rattle.frames.specs.Tasks.{matched, mismatch_end}
use Rattle.frames.proofs.mismatch.end_mismatch.Given as goal

-- those that are left end as all do
abbrev pub invariant-loop-argument : goal.invariant-loop-argument
invariant-loop-argument l =
    mismatch_end (matched (script_of l.script) l.name (map argument_of l.arguments)) ≡ mismatch_end (map argument_of (drop l.argument-index l.argument-items))

use Rattle.std.proofs.Common.{◌≡◌, ℕ, map, drop}
use Rattle.script_check.specs.Trees.{script_of}
use Rattle.frames.specs.Values.{outcome_of}
use Rattle.frames.specs.Machines.{argument_of}
use Rattle.frames.specs.Tasks.{matched, mismatch_stop}
use Rattle.frames.proofs.mismatch.stop_mismatch.Given as goal

-- those that are left stop where all do
abbrev pub invariant-loop-argument : goal.invariant-loop-argument
invariant-loop-argument l =
    (results : ℕ) → mismatch_stop results (matched (script_of l.script) l.name (map argument_of l.arguments)) (map outcome_of l.answers)
    ≡ mismatch_stop results (map argument_of (drop l.argument-index l.argument-items)) (map outcome_of (drop l.used l.answers))

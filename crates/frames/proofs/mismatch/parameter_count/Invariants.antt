use Rattle.std.proofs.Common.{◌≡◌, drop}
use Rattle.meaning.specs.Meaning.{find}
use Rattle.script_check.specs.Trees.{script_of}
use Rattle.frames.proofs.mismatch.parameter_count.Given as goal

abbrev pub invariant-loop-function : goal.invariant-loop-function
invariant-loop-function l = find (script_of (drop l.function-index l.script)) l.name ≡ find (script_of l.script) l.name

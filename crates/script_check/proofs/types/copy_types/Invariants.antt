use Rattle.std.proofs.Common.{◌≡◌, take, map}
use Rattle.script_check.specs.Trees.{kind_of}
use Rattle.script_check.proofs.types.copy_types.Given as goal

abbrev pub invariant-loop-kind : goal.invariant-loop-kind
invariant-loop-kind l = map kind_of l.copies.items ≡ map kind_of (take l.kind-index l.kinds)

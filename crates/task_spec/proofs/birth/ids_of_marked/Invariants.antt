use Rattle.std.proofs.Common.{◌≡◌, map, take}
use Rattle.task_spec.specs.Births.{argument_of}
use Rattle.task_spec.specs.Dereferenced.{ids_read}
use Rattle.task_spec.proofs.birth.ids_of_marked.Given as goal

abbrev pub invariant-loop-argument : goal.invariant-loop-argument
invariant-loop-argument l = l.found.items ≡ ids_read (map argument_of (take l.argument-index l.arguments))

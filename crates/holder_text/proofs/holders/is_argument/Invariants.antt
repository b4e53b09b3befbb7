use Rattle.std.proofs.Common.{◌≡◌, drop, map}
use Rattle.task_spec.specs.Births.{argument_of}
use Rattle.holder_text.specs.Holders.{is_argument}
use Rattle.holder_text.proofs.holders.is_argument.Given as goal

abbrev pub invariant-loop-argument : goal.invariant-loop-argument
invariant-loop-argument l =
    is_argument l.object (map argument_of l.arguments) ≡ is_argument l.object (map argument_of (drop l.argument-index l.arguments))

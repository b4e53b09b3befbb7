use Rattle.std.proofs.Common.{◌≡◌, drop, map}
use Rattle.std.specs.List.{list_any}
use Rattle.task_spec.specs.Births.{argument_of}
use Rattle.log_text.specs.Mentions.{is_in_argument}
use Rattle.log_text.proofs.mentions.is_in_arguments.Given as goal

abbrev pub invariant-loop-argument : goal.invariant-loop-argument
invariant-loop-argument l =
    list_any (is_in_argument l.object) (map argument_of l.arguments)
    ≡ list_any (is_in_argument l.object) (map argument_of (drop l.argument-index l.arguments))

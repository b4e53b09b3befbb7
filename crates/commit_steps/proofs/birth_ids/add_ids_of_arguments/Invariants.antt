use Rattle.std.proofs.Common.{◌≡◌, drop, map}
use Rattle.values.specs.Listed.{adding}
use Rattle.task_spec.specs.Births.{argument_of}
use Rattle.event_log.specs.Holding.{ids_of_arguments}
use Rattle.commit_steps.proofs.birth_ids.add_ids_of_arguments.Given as goal

abbrev pub invariant-loop-argument : goal.invariant-loop-argument
invariant-loop-argument l =
    adding l.found.items (ids_of_arguments (map argument_of (drop l.argument-index l.arguments)))
    ≡ adding l.initial.found.items (ids_of_arguments (map argument_of l.arguments))

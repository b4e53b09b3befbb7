use Rattle.std.proofs.Common.{◌+◌, ap, drop, map, sym, ◌∙◌}
use Rattle.values.specs.Values.{value_of}
use Rattle.values.specs.Listed.{adding, ids_listed}
use Rattle.task_spec.specs.Births.{argument_of}
use Rattle.event_log.specs.Holding.{ids_of_arguments}
use Rattle.commit_steps.proofs.Adding.{adding_append, drop_or}
use Rattle.commit_steps.proofs.birth_ids.add_ids_of_arguments.Goals as goal

pub loop-argument-preserved : goal.loop-argument-preserved
loop-argument-preserved c =
    let args = c.args.arguments.now in
    let i = c.loop-argument.argument-index in
    let a = c.argument-item.result in
    let seen = c.loop-argument.found.items in
    let rest = ids_of_arguments (map argument_of (drop (i + 1) args)) in
    ap (λ s. adding s rest) c.in_ok-add_ids.ensures.done
    ∙ sym (adding_append seen (ids_listed (value_of a.value)) rest)
    ∙ sym (ap (λ ys. adding seen (ids_of_arguments (map argument_of ys))) (drop_or args i a a c.loop-argument-test.true c.argument-item.is))
    ∙ c.loop-argument.invariant

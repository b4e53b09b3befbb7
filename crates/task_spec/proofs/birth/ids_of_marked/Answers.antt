use Rattle.std.proofs.Common.{sym, ap, ◌∙◌, ◌++◌}
use Rattle.task_spec.specs.Births.{argument_of}
use Rattle.task_spec.specs.Dereferenced.{id_read}
use Rattle.task_spec.proofs.Read.{read_more}
use Rattle.task_spec.proofs.birth.ids_of_marked.Goals as goal

pub loop-argument-preserved : goal.loop-argument-preserved
loop-argument-preserved c =
    c.in_ok-add_dereferenced.ensures ∙ ap (λ os. os ++ id_read (argument_of c.argument-item.result)) c.loop-argument.invariant
    ∙ sym (read_more c.args.arguments.now c.loop-argument.argument-index c.argument-item.result c.loop-argument-test.true c.argument-item.is)

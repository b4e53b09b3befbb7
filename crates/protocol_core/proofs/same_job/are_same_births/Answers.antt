use Rattle.std.proofs.Common.{◌∙◌, ap, sym, arith}
use Rattle.std.specs.Arc.{arc_value}
use Rattle.task_spec.specs.Births.{birth_of}
use Rattle.protocol_core.proofs.Apart.{same_place}
use Rattle.protocol_core.proofs.same_job.are_same_births.Goals as goal

pub returns-then-not-is_same-clause-only : goal.returns-then-not-is_same-clause-only
returns-then-not-is_same-clause-only c e =
    let same = same_place birth_of arc_value c.loop-i.i c.args.births.now c.args.held.now c.index-births-i.result c.index-held-i.result
    (omega arith) (omega arith) c.index-births-i.is c.index-held-i.is e in
    sym c.if-not-is_same.true ∙ c.is_same.ensures.only (ap birth_of c.deref.ensures ∙ (same ∙ sym (ap birth_of c.deref-in-loop-i.ensures)))

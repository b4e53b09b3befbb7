use Rattle.std.proofs.Common.{◌∙◌, ap, sym, arith}
use Rattle.std.specs.Arc.{arc_value}
use Rattle.values.specs.Values.{value_of}
use Rattle.protocol_core.proofs.Apart.{same_place}
use Rattle.protocol_core.proofs.same_job.are_same_prints.Goals as goal

pub returns-then-not-is_same-clause-only : goal.returns-then-not-is_same-clause-only
returns-then-not-is_same-clause-only c e =
    let same = same_place value_of arc_value c.loop-i.i c.args.prints.now c.args.held.now c.index-prints-i.result c.index-held-i.result
    (omega arith) (omega arith) c.index-prints-i.is c.index-held-i.is e in
    sym c.if-not-is_same.true ∙ c.is_same.ensures.only (ap value_of c.deref.ensures ∙ (same ∙ sym (ap value_of c.deref-in-loop-i.ensures)))

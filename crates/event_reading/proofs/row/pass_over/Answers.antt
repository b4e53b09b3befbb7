use Rattle.std.proofs.Common.{rules, subst, ◌∙◌}
use Rattle.event_reading.specs.Known.{IfKnown, IsNextByte, left_of}
use Rattle.event_reading.proofs.Going.{one_passed}
use Rattle.event_reading.proofs.row.pass_over.Goals as goal

pub loop-count-preserved : goal.loop-count-preserved
loop-count-preserved g c =
    let a = c.in-Some.is in
    let b = c.if-byte-eq10.false in
    let next = subst (λ o. IfKnown (left_of c.loop-count.ahead.items (g.R.Source.left c.loop-count.reader))
    (left_of c.next_byte.new.ahead.items (g.R.Source.left c.next_byte.new.reader)) (IsNextByte o)) c.in-Some.is c.in_ok-byte.ensures.taken in
    (c.in_ok-byte.ensures.unfailed ∙ c.loop-count.invariant.0, one_passed _ _ _ c.in-Some.byte (search rules) c.loop-count.invariant.1 next)

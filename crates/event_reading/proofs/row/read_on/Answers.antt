use Rattle.std.proofs.Common.{rules, subst, ◌∙◌}
use Rattle.event_reading.specs.Known.{IfKnown, IsNextByte, left_of}
use Rattle.event_reading.proofs.Going.{one_read}
use Rattle.event_reading.proofs.row.read_on.Goals as goal

pub loop-reader-preserved : goal.loop-reader-preserved
loop-reader-preserved g c =
    let next = subst (λ o. IfKnown (left_of c.loop-reader.ahead.items (g.R.Source.left c.loop-reader.reader))
    (left_of c.next_byte.new.ahead.items (g.R.Source.left c.next_byte.new.reader)) (IsNextByte o)) c.in-Some.is c.in_ok-byte.ensures.taken in
    (c.in_ok-byte.ensures.unfailed ∙ c.loop-reader.invariant.0, one_read _ _ _ c.args.line.now.items c.loop-reader.line.items c.push.new.self.items c.in-Some.byte (search rules) (search rules) c.loop-reader.invariant.1 next)

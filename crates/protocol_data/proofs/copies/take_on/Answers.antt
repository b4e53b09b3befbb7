use Rattle.std.proofs.Common.{◌∙◌, arith, sym}
use Rattle.protocol_data.proofs.Shelving.{all_taken}
use Rattle.protocol_data.proofs.copies.take_on.Goals as goal

pub returns-clause-rows : goal.returns-clause-rows
returns-clause-rows c =
    sym
    (all_taken c.args.object c.args.number c.loop-place.shelves c.loop-place.place c.loop-place.invariant.2
    (omega (arith, c.loop-place.invariant.1, c.loop-place-test.false, c.loop-place.auto, c.len-place-end.ensures)))
    ∙ c.loop-place.invariant.3

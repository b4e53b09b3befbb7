use Rattle.std.proofs.Common.{map, drop, ap, ◌∙◌, ◌+◌, arith}
use Rattle.meaning.specs.Values.{Known, Returned}
use Rattle.frames.specs.Values.{value_of}
use Rattle.frames.proofs.Endings.{without_next, references_next, references_end}
use Rattle.frames.proofs.ending.to_values.Goals as goal

pub loop-place-preserved : goal.loop-place-preserved
loop-place-preserved c =
    references_next c.loop-place.references.items c.push.new.self.items c.in_ok-reference_to.field-0 (Returned (map value_of (drop c.loop-place.place c.args.values.now))) (Returned (map value_of (drop (c.loop-place.place + 1) c.args.values.now))) c.args.count c.loop-place.place _
    c.loop-place-test.true c.in_ok-push.ensures.items (c.in_ok-reference_to.ensures ∙ ap Known c.in_ok-outcome.ensures) (without_next c.args.values.now c.loop-place.place) c.loop-place.invariant

pub returns : goal.returns
returns c = references_end c.loop-place.references.items (Returned (map value_of (drop c.loop-place.place c.args.values.now))) c.args.count c.loop-place.place _ (omega (arith, c.loop-place-test.false)) c.loop-place.invariant

use Rattle.std.proofs.Common.{sym, ◌∙◌}
use Rattle.protocol_data.proofs.Bounds.{noted_by}
use Rattle.protocol_data.proofs.attempts.note.Goals as goal

pub returns-then-bounds-clause-noted : goal.returns-then-bounds-clause-noted
returns-then-bounds-clause-noted c = noted_by c.loop-place.all c.loop-place.place c.get-bound.result.now c.args.object c.get-bound.ensures (sym c.bounds.ensures ∙ c.if-bounds.true)

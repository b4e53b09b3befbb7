use Rattle.std.proofs.Common.{◌∙◌, ap, length, slice_set}
use Rattle.protocol_board.proofs.Turning.{noted}
use Rattle.protocol_board.proofs.driving.go.Goals as goal

pub returns-clause-goes : goal.returns-clause-goes
returns-clause-goes g c = record {
  answers = c.apply_own-told.ensures.answers;
  sent =
      noted c.args.sent.now c.push.new.self c.set.new.self c.len-place.result (length c.apply_own-told.new.self.whole.network) 0 c.in-Ok.ensures.ok
      c.len-place.ensures (c.set.ensures ∙ ap (λ n. slice_set c.push.new.self c.len-place.result n) (c.len.ensures ∙ ap length c.messages.ensures));
}

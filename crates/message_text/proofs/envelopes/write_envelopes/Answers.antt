use Rattle.std.specs.Prelude.{string_bytes}
use Rattle.message_text.proofs.Writing.{next_envelope}
use Rattle.message_text.proofs.envelopes.write_envelopes.Goals as goal

pub loop-place-preserved : goal.loop-place-preserved
loop-place-preserved c =
    next_envelope c.args.contents (string_bytes c.loop-place.text) (string_bytes c.write_envelope.new.text) _ c.args.before c.loop-place.place c.args.envelopes.now
    c.index-envelopes-place.result c.loop-place-test.true c.index-envelopes-place.is c.loop-place.invariant c.in_ok-write_envelope.ensures

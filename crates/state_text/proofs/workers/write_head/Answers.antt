use Rattle.std.proofs.Common.{string_bytes}
use Rattle.holder_text.proofs.Writing.{two}
use Rattle.state_text.proofs.workers.write_head.Goals as goal

pub returns : goal.returns
returns c = λ h.
    two (string_bytes c.args.text.now) (string_bytes c.write_alive.new.text) (string_bytes c.write_standing.new.text) _ _ c.in_ok-write_alive.ensures
    (c.in_ok-write_standing.ensures h)

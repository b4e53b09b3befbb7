use Rattle.std.proofs.Common.{string_bytes}
use Rattle.main_text.proofs.Writing.{two}
use Rattle.main_text.proofs.attempts.write_fetch.Goals as goal

pub returns : goal.returns
returns c = λ h.
    two (string_bytes c.args.text.now) (string_bytes c.write_wait.new.text) (string_bytes c.write_copy.new.text) _ _ (c.in_ok-write_wait.ensures h)
    c.in_ok-write_copy.ensures

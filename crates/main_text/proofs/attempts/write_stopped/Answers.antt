use Rattle.std.proofs.Common.{string_bytes}
use Rattle.main_text.specs.Links.{stopped_text}
use Rattle.main_text.proofs.Writing.{three}
use Rattle.main_text.proofs.attempts.write_stopped.Goals as goal

pub returns : goal.returns
unfolding stopped_text
returns c = λ h.
    three (string_bytes c.args.text.now) (string_bytes c.write_named.new.text) (string_bytes c.push_str.new.self)
    (string_bytes c.write_when_last.new.text) _ _ _ (c.in_ok-write_named.ensures.done h) c.in_ok-push_str.ensures.bytes c.in_ok-write_when_last.ensures

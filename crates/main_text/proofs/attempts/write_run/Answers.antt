use Rattle.std.proofs.Common.{string_bytes}
use Rattle.main_text.proofs.Writing.{six}
use Rattle.main_text.proofs.attempts.write_run.Goals as goal

pub returns : goal.returns
returns c = λ h.
    six (string_bytes c.args.text.now) (string_bytes c.write_named.new.text) (string_bytes c.push_str.new.self)
    (string_bytes c.write_worker.new.text) (string_bytes c.write_when_last.new.text)
    (string_bytes c.write_again.new.text) (string_bytes c.push_str-2.new.self) _ _ _ _ _ _
    (c.in_ok-write_named.ensures.done h) c.in_ok-push_str.ensures.bytes c.in_ok-write_worker.ensures.done c.in_ok-write_when_last.ensures
    (c.in_ok-write_again.ensures.done h) c.in_ok-push_str-2.ensures.bytes

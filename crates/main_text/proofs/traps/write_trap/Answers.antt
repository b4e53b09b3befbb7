use Rattle.std.proofs.Common.{string_bytes}
use Rattle.main_text.specs.Traps.{trap_text}
use Rattle.main_text.proofs.Writing.{six}
use Rattle.main_text.proofs.traps.write_trap.Goals as goal

pub returns : goal.returns
unfolding trap_text
returns c = λ h.
    six (string_bytes c.args.text.now) (string_bytes c.write_named.new.text) (string_bytes c.push_str.new.self)
    (string_bytes c.write_when_last.new.text) (string_bytes c.push_str-2.new.self) (string_bytes c.write_made.new.text)
    (string_bytes c.push_str-3.new.self) _ _ _ _ _ _ (c.in_ok-write_named.ensures.done h) c.in_ok-push_str.ensures.bytes c.in_ok-write_when_last.ensures
    c.in_ok-push_str-2.ensures.bytes (c.in_ok-write_made.ensures h) c.in_ok-push_str-3.ensures.bytes

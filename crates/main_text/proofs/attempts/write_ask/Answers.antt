use Rattle.std.proofs.Common.{string_bytes}
use Rattle.main_text.proofs.Writing.{six}
use Rattle.main_text.proofs.attempts.write_ask.Goals as goal

pub returns : goal.returns
returns c = λ h.
    six (string_bytes c.args.text.now) (string_bytes c.write_named.new.text) (string_bytes c.push_str.new.self)
    (string_bytes c.write_owner_of.new.text) (string_bytes c.push_str-2.new.self) (string_bytes c.write_node.new.text)
    (string_bytes c.push_str-3.new.self) _ _ _ _ _ _ (c.in_ok-write_named.ensures.done h) c.in_ok-push_str.ensures.bytes c.in_ok-write_owner_of.ensures
    c.in_ok-push_str-2.ensures.bytes c.in_ok-write_node.ensures.done c.in_ok-push_str-3.ensures.bytes

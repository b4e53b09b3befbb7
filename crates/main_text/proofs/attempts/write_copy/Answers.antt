use Rattle.std.proofs.Common.{string_bytes}
use Rattle.main_text.proofs.Writing.{four}
use Rattle.main_text.proofs.attempts.write_copy.Goals as goal

pub returns : goal.returns
returns c =
    four (string_bytes c.args.text.now) (string_bytes c.write_worker.new.text) (string_bytes c.push_str.new.self) (string_bytes c.write_node.new.text)
    (string_bytes c.push_str-2.new.self) _ _ _ _ c.in_ok-write_worker.ensures.done c.in_ok-push_str.ensures.bytes c.in_ok-write_node.ensures.done
    c.in_ok-push_str-2.ensures.bytes

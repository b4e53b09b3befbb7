use Rattle.std.proofs.Common.{string_bytes}
use Rattle.main_text.proofs.Writing.{six}
use Rattle.main_text.proofs.links.write_slot.Goals as goal

pub returns : goal.returns
returns c =
    six (string_bytes c.args.text.now) (string_bytes c.write_worker.new.text) (string_bytes c.push_str.new.self) (string_bytes c.write_node.new.text)
    (string_bytes c.push_str-2.new.self) (string_bytes c.write_holders.new.text) (string_bytes c.push_str-3.new.self) _ _ _ _ _ _
    c.in_ok-write_worker.ensures.done c.in_ok-push_str.ensures.bytes c.in_ok-write_node.ensures.done c.in_ok-push_str-2.ensures.bytes
    c.in_ok-write_holders.ensures c.in_ok-push_str-3.ensures.bytes

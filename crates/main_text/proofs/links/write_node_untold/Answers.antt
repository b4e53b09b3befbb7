use Rattle.std.proofs.Common.{string_bytes}
use Rattle.main_text.proofs.Writing.{five}
use Rattle.main_text.proofs.links.write_node_untold.Goals as goal

pub returns : goal.returns
returns c =
    five (string_bytes c.args.text.now) (string_bytes c.write_node.new.text) (string_bytes c.push_str.new.self)
    (string_bytes c.write_when_last.new.text) (string_bytes c.write_untold_note.new.text) (string_bytes c.write_remedy.new.text) _ _ _ _ _
    c.in_ok-write_node.ensures.done c.in_ok-push_str.ensures.bytes c.in_ok-write_when_last.ensures c.in_ok-write_untold_note.ensures
    c.in_ok-write_remedy.ensures

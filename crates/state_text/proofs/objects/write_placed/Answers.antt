use Rattle.std.proofs.Common.{string_bytes}
use Rattle.holder_text.proofs.Writing.{three}
use Rattle.state_text.proofs.objects.write_placed.Goals as goal

pub returns : goal.returns
returns c =
    three (string_bytes c.args.text.now) (string_bytes c.write_placed_head.new.text) (string_bytes c.write_node_words.new.text) (string_bytes c.push_str.new.self)
    _ _ _ c.in_ok-write_placed_head.ensures c.in_ok-write_node_words.ensures c.in_ok-push_str.ensures.bytes

use Rattle.std.specs.Prelude.{string_bytes, codes}
use Rattle.main_text.specs.Links.{node_text}
use Rattle.endpoint_text.proofs.Writing.{three_written}
use Rattle.endpoint_text.proofs.text.write_no_node.Goals as goal

pub returns : goal.returns
returns c =
    three_written (string_bytes c.args.text.now) (string_bytes c.push_str.new.self) (string_bytes c.write_node.new.text)
    (string_bytes c.push_str-2.new.self) (codes "There is no ") (node_text c.args.node) (codes ".\n")
    c.in_ok-push_str.ensures.bytes c.in_ok-write_node.ensures.done c.in_ok-push_str-2.ensures.bytes

use Rattle.std.specs.Prelude.{string_bytes, codes}
use Rattle.main_text.specs.Links.{node_text}
use Rattle.endpoint_text.specs.Lists.{ids_text}
use Rattle.endpoint_text.proofs.Writing.{four_written}
use Rattle.endpoint_text.proofs.copies.write_lost_some.Goals as goal

pub returns : goal.returns
returns c =
    four_written (string_bytes c.args.text.now) (string_bytes c.write_node.new.text) (string_bytes c.push_str.new.self)
    (string_bytes c.write_ids.new.text) (string_bytes c.push_str-2.new.self) (node_text c.args.node) (codes " lost the primary copies of ")
    (ids_text c.args.contents c.args.objects.now) (codes ".\n")
    c.in_ok-write_node.ensures.done c.in_ok-push_str.ensures.bytes c.in_ok-write_ids.ensures c.in_ok-push_str-2.ensures.bytes

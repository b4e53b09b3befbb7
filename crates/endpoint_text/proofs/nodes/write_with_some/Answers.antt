use Rattle.std.specs.Prelude.{string_bytes, codes}
use Rattle.main_text.specs.Links.{workers_text}
use Rattle.endpoint_text.proofs.Writing.{two_written}
use Rattle.endpoint_text.proofs.nodes.write_with_some.Goals as goal

pub returns : goal.returns
returns c =
    two_written (string_bytes c.args.text.now) (string_bytes c.push_str.new.self) (string_bytes c.write_workers.new.text)
    (codes ", and with it ") (workers_text c.args.workers.now) c.in_ok-push_str.ensures.bytes c.in_ok-write_workers.ensures.done

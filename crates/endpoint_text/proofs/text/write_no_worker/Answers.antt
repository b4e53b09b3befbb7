use Rattle.std.specs.Prelude.{string_bytes, codes}
use Rattle.main_text.specs.Links.{worker_text}
use Rattle.endpoint_text.proofs.Writing.{three_written}
use Rattle.endpoint_text.proofs.text.write_no_worker.Goals as goal

pub returns : goal.returns
returns c =
    three_written (string_bytes c.args.text.now) (string_bytes c.push_str.new.self) (string_bytes c.write_worker.new.text)
    (string_bytes c.push_str-2.new.self) (codes "There is no ") (worker_text c.args.worker) (codes ".\n")
    c.in_ok-push_str.ensures.bytes c.in_ok-write_worker.ensures.done c.in_ok-push_str-2.ensures.bytes

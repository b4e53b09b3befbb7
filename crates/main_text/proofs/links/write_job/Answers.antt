use Rattle.std.proofs.Common.{string_bytes}
use Rattle.main_text.proofs.Writing.{five}
use Rattle.main_text.proofs.links.write_job.Goals as goal

pub returns : goal.returns
returns c =
    five (string_bytes c.args.text.now) (string_bytes c.write_worker.new.text) (string_bytes c.push_str.new.self) (string_bytes c.write.new.self)
    (string_bytes c.write_when_last.new.text) (string_bytes c.write_remedy.new.text) _ _ _ _ _ c.in_ok-write_worker.ensures.done
    c.in_ok-push_str.ensures.bytes c.in_ok-write.ensures.bytes c.in_ok-write_when_last.ensures c.in_ok-write_remedy.ensures

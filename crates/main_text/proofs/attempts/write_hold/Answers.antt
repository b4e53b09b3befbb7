use Rattle.std.proofs.Common.{string_bytes}
use Rattle.main_text.proofs.Writing.{four}
use Rattle.main_text.proofs.attempts.write_hold.Goals as goal

pub returns : goal.returns
returns c =
    four (string_bytes c.args.text.now) (string_bytes c.write_worker.new.text) (string_bytes c.push_str.new.self)
    (string_bytes c.write_owner.new.text) (string_bytes c.write_knowledge.new.text) _ _ _ _ c.in_ok-write_worker.ensures.done
    c.in_ok-push_str.ensures.bytes c.in_ok-write_owner.ensures c.in_ok-write_knowledge.ensures

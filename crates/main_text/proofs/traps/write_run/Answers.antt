use Rattle.std.proofs.Common.{string_bytes}
use Rattle.main_text.specs.Traps.{run_text}
use Rattle.main_text.proofs.Writing.{seven}
use Rattle.main_text.proofs.traps.write_run.Goals as goal

pub returns : goal.returns
unfolding run_text
returns c = λ h.
    seven (string_bytes c.args.text.now) (string_bytes c.write_named.new.text) (string_bytes c.push_str.new.self)
    (string_bytes c.write_runner_of.new.text) (string_bytes c.write_when_last.new.text) (string_bytes c.push_str-2.new.self)
    (string_bytes c.write_when_last-2.new.text) (string_bytes c.push_str-3.new.self) _ _ _ _ _ _ _ (c.in_ok-write_named.ensures.done h)
    c.in_ok-push_str.ensures.bytes c.in_ok-write_runner_of.ensures c.in_ok-write_when_last.ensures c.in_ok-push_str-2.ensures.bytes
    c.in_ok-write_when_last-2.ensures c.in_ok-push_str-3.ensures.bytes

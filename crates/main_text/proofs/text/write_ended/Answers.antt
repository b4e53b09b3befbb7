use Rattle.std.proofs.Common.{string_bytes}
use Rattle.main_text.specs.Text.{ended_text}
use Rattle.main_text.proofs.Writing.{five}
use Rattle.main_text.proofs.text.write_ended.Goals as goal

pub returns : goal.returns
unfolding ended_text
returns c =
    five (string_bytes c.args.text.now) (string_bytes c.push_str.new.self) (string_bytes c.write_main_when.new.text)
    (string_bytes c.push_str-2.new.self) (string_bytes c.write_content.new.text) (string_bytes c.push_str-3.new.self) _ _ _ _ _
    c.in_ok-push_str.ensures.bytes c.in_ok-write_main_when.ensures c.in_ok-push_str-2.ensures.bytes c.in_ok-write_content.ensures.done
    c.in_ok-push_str-3.ensures.bytes

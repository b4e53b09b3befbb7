use Rattle.std.specs.Prelude.{string_bytes, codes, length}
use Rattle.log_words.specs.Faults.{fault_words}
use Rattle.why_text.specs.Text.{causes_text, main_lack_text}
use Rattle.why_text.proofs.Writing.{four_written}
use Rattle.why_text.proofs.causes.add_main_lack.Goals as goal

pub returns : goal.returns
unfolding main_lack_text
returns c =
    four_written (string_bytes c.args.text.now) (string_bytes c.push_str.new.self) (string_bytes c.write_fault.new.text) (string_bytes c.push_str-2.new.self)
    (string_bytes c.write_way.new.text) (codes "Main ended with a fault: ") (fault_words c.args.lack.fault) (codes ".\n\n")
    (causes_text c.args.contents c.args.log.now c.args.lines.now c.args.lack.fault.object (length c.args.log.now) c.args.lack.object)
    c.in_ok-push_str.ensures.bytes c.in_ok-write_fault.ensures.done c.in_ok-push_str-2.ensures.bytes c.in_ok-write_way.ensures

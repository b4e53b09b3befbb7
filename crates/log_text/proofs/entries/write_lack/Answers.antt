use Rattle.std.specs.Prelude.{string_bytes}
use Rattle.log_words.specs.Faults.{fault_words}
use Rattle.log_text.specs.Entries.{lack_head}
use Rattle.log_text.proofs.Writing.{both_written}
use Rattle.log_text.proofs.entries.write_lack.Goals as goal

pub returns : goal.returns
returns c =
    both_written (string_bytes c.args.text.now) (string_bytes c.write_lack_head.new.text) (string_bytes c.write_fault.new.text)
    (lack_head c.args.object) (fault_words c.args.fault) c.write_fault.result c.in_ok-write_lack_head.ensures c.write_fault.ensures.done

use Rattle.std.specs.Prelude.{string_bytes, codes}
use Rattle.values.specs.Values.{value_of}
use Rattle.log_words.specs.Contents.{shown_text}
use Rattle.log_text.proofs.Writing.{both_written}
use Rattle.log_text.proofs.entries.write_print.Goals as goal

pub returns : goal.returns
returns c =
    both_written (string_bytes c.args.text.now) (string_bytes c.push_str.new.self) (string_bytes c.write_value.new.text)
    (codes "main prints ") (shown_text c.args.contents (value_of c.args.value.now)) c.write_value.result c.in_ok-push_str.ensures.bytes c.write_value.ensures.done

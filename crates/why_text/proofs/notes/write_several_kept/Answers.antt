use Rattle.std.specs.Prelude.{string_bytes, codes}
use Rattle.log_words.specs.Tasks.{listed_text}
use Rattle.why_text.specs.Notes.{several_kept}
use Rattle.why_text.proofs.Writing.{three_written}
use Rattle.why_text.proofs.notes.write_several_kept.Goals as goal

pub returns : goal.returns
unfolding several_kept
returns c =
    three_written (string_bytes c.args.text.now) (string_bytes c.push_str.new.self) (string_bytes c.write_listed.new.text) (string_bytes c.push_str-2.new.self)
    (codes ", and keeps ") (listed_text c.args.kept.now) (codes " itself, which no node can lose") c.in_ok-push_str.ensures.bytes
    c.in_ok-write_listed.ensures c.in_ok-push_str-2.ensures.bytes

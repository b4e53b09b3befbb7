use Rattle.std.specs.Prelude.{string_bytes, codes}
use Rattle.event_log.specs.Words.{births}
use Rattle.log_text.specs.Attempts.{named_text}
use Rattle.why_text.specs.Moments.{moment_of, when_text}
use Rattle.why_text.specs.Entries.{faulted_head}
use Rattle.why_text.proofs.Writing.{three_written}
use Rattle.why_text.proofs.acts.write_faulted_head.Goals as goal

pub returns : goal.returns
unfolding faulted_head
returns c = λ h.
    three_written (string_bytes c.args.text.now) (string_bytes c.write_named.new.text) (string_bytes c.push_str.new.self) (string_bytes c.write_when.new.text)
    (named_text (births c.args.log.now) c.args.attempt) (codes " ended with a fault") (when_text (moment_of c.args.moment.now))
    (c.in_ok-write_named.ensures.done h) c.in_ok-push_str.ensures.bytes c.in_ok-write_when.ensures.done

use Rattle.std.specs.Prelude.{string_bytes, codes}
use Rattle.message_text.specs.Messages.{closed_text}
use Rattle.message_text.proofs.Writing.{both_written}
use Rattle.message_text.proofs.kinds.write_finished_ack.Goals as goal

pub returns : goal.returns
returns c =
    both_written (string_bytes c.args.text.now) (string_bytes c.push_str.new.self) (string_bytes c.write_closed.new.text)
    (codes "FinishedAck(") (closed_text c.args.attempt) c.write_closed.result c.in_ok-push_str.ensures.bytes c.write_closed.ensures

use Rattle.std.proofs.Common.{string_bytes}
use Rattle.summary_text.specs.Events.{events_text}
use Rattle.summary_text.specs.Functions.{functions_text}
use Rattle.summary_text.specs.Messages.{messages_text}
use Rattle.summary_text.specs.Opened.{opened_line}
use Rattle.summary_text.specs.Text.{parts_text}
use Rattle.summary_text.proofs.Writing.{four}
use Rattle.summary_text.proofs.text.write_parts.Goals as goal

pub returns : goal.returns
unfolding parts_text
returns c = λ h k.
    four (string_bytes c.args.text.now) (string_bytes c.write_functions.new.text) (string_bytes c.write_messages.new.text) (string_bytes c.write_events.new.text)
    (string_bytes c.write_opened.new.text) (functions_text c.args.log.now) (messages_text c.args.log.now c.args.envelopes.now) (events_text c.args.log.now)
    (opened_line c.args.log.now) (c.in_ok-write_functions.ensures h k) c.in_ok-write_messages.ensures c.in_ok-write_events.ensures c.in_ok-write_opened.ensures

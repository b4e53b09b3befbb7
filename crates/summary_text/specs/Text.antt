-- The whole summary of a run, of its log and its messages.
use Rattle.std.specs.Prelude.{List, codes, ℕ, ◌++◌}
use Rattle.event_log.specs.Entries.{Entry}
use Rattle.protocol_data.specs.declared.message.Envelope.{Envelope}
use Rattle.summary_text.specs.Events.{events_text}
use Rattle.summary_text.specs.Functions.{functions_text}
use Rattle.summary_text.specs.Messages.{messages_text}
use Rattle.summary_text.specs.Opened.{opened_line}

unfoldable pub parts_text : List Entry → List Envelope → List ℕ
parts_text log envelopes = functions_text log ++ (messages_text log envelopes ++ (events_text log ++ opened_line log))

-- of a run's log and its messages
unfoldable pub summary_text : List Entry → List Envelope → List ℕ
summary_text log envelopes = codes "summary\n" ++ parts_text log envelopes

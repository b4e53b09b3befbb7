-- A log in words, with the messages that each event sent.
use Rattle.std.specs.Prelude.{ℕ, List, [], ◌∷◌, ◌++◌}
use Rattle.meaning.specs.Births.{Bearing}
use Rattle.event_log.specs.Entries.{Entry}
use Rattle.event_log.specs.Events.{refused_next}
use Rattle.event_log.specs.Words.{births}
use Rattle.log_words.specs.declared.contents.Contents.{Contents}
use Rattle.log_words.specs.Told.{Told, nothing_told, told_after}
use Rattle.log_text.specs.Entries.{line}
use Rattle.protocol_data.specs.declared.message.Envelope.{Envelope}
use Rattle.message_text.specs.Sent.{is_over, sent_note}

-- behind the entry stand the messages of its event, where it is the event's last
abbrev pub behind : Contents → List Envelope → List ℕ → Told → List Entry → List ℕ
behind how envelopes sent told rest = sent_note how envelopes sent told.events (is_over rest)

-- the lines of the entries, where `told` is what was told before them
abbrev pub lines_with : Contents → List Bearing → List Envelope → List ℕ → Told → List Entry → List ℕ
lines_with how births envelopes sent told [] = []
lines_with how births envelopes sent told (x ∷ rest) =
    line how births told x (refused_next rest)
    ++ (behind how envelopes sent (told_after told x (refused_next rest)) rest
    ++ lines_with how births envelopes sent (told_after told x (refused_next rest)) rest)

-- a line for each entry, and below an event's a line for each message that it sent; `how` says whether long lists are cut, and `sent` is how many had
-- been sent behind each event
abbrev pub log_with_messages : Contents → List Entry → List Envelope → List ℕ → List ℕ
log_with_messages how log envelopes sent = lines_with how (births log) envelopes sent nothing_told log

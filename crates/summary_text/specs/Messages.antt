-- The summary's lines of messages: of each kind that was sent how many were sent and delivered.
use Rattle.std.specs.Prelude.{List, [], codes, if◌then◌else◌, ℕ, ◌++◌, ◌==◌}
use Rattle.std.specs.Fmt.{decimal}
use Rattle.meaning.specs.Values.{Name}
use Rattle.event_log.specs.Entries.{Entry}
use Rattle.message_counts.specs.Counts.{deliveries, sent_count}
use Rattle.protocol_data.specs.declared.message.Envelope.{Envelope}

-- message Ask: 3 sent, 3 delivered
unfoldable pub kind_words : Name → ℕ → ℕ → List ℕ
kind_words kind sent delivered =
    codes "message " ++ (kind ++ (codes ": " ++ (decimal sent ++ (codes " sent, " ++ (decimal delivered ++ codes " delivered\n")))))

abbrev pub kind_note : Name → ℕ → ℕ → List ℕ
kind_note kind sent delivered = if sent == 0 then [] else kind_words kind sent delivered

-- there is no line of a kind of which none was sent
unfoldable pub kind_line : List Entry → List Envelope → Name → List ℕ
kind_line log envelopes kind = kind_note kind (sent_count kind envelopes) (deliveries kind envelopes log)

-- what asks for workers, and gives work
abbrev pub lease_kinds : List Entry → List Envelope → List ℕ
lease_kinds log ls =
    kind_line log ls (codes "Ask")
    ++ (kind_line log ls (codes "Give")
    ++ (kind_line log ls (codes "Elsewhere")
    ++ (kind_line log ls (codes "Wait") ++ (kind_line log ls (codes "Back") ++ kind_line log ls (codes "Push")))))

-- what says how attempts stopped, and where objects are
abbrev pub end_kinds : List Entry → List Envelope → List ℕ
end_kinds log ls =
    kind_line log ls (codes "Finished")
    ++ (kind_line log ls (codes "FinishedAck")
    ++ (kind_line log ls (codes "Failed")
    ++ (kind_line log ls (codes "Where") ++ (kind_line log ls (codes "At") ++ kind_line log ls (codes "Gone")))))

-- what moves copies, and says who holds what
abbrev pub copy_kinds : List Entry → List Envelope → List ℕ
copy_kinds log ls =
    kind_line log ls (codes "Fetch")
    ++ (kind_line log ls (codes "Copy")
    ++ (kind_line log ls (codes "Missing")
    ++ (kind_line log ls (codes "Hold") ++ (kind_line log ls (codes "HoldAck") ++ kind_line log ls (codes "Unhold")))))

unfoldable pub messages_text : List Entry → List Envelope → List ℕ
messages_text log ls = lease_kinds log ls ++ (end_kinds log ls ++ copy_kinds log ls)

-- What the entries add, one after the other.
use Rattle.std.specs.Prelude.{ℕ, Bool, List, [], ◌∷◌, ◌++◌, map}
use Rattle.std.specs.List.{flat_map}
use Rattle.serde_json.specs.Data.{Data}
use Rattle.meaning.specs.Births.{Bearing}
use Rattle.event_log.specs.Events.{refused_next}
use Rattle.event_log.specs.Entries.{Entry}
use Rattle.log_words.specs.declared.contents.Contents.{Contents}
use Rattle.log_words.specs.Told.{Told}
use Rattle.protocol_data.specs.declared.message.Envelope.{Envelope}
use Rattle.timeline.specs.declared.rows.Row.{Row}
use Rattle.timeline.specs.Rows.{row_after, new_rows}
use Rattle.timeline.specs.Marks.{entry_marks}
use Rattle.timeline.specs.Endings.{row_data, open_data}
use Rattle.timeline.specs.Told.{told_with}
use Rattle.timeline.specs.Arrows.{entry_arrows}

-- the spans that end in the rows, then the rest
unfoldable pub entry_data : Contents → List Bearing → ℕ → List Row → Entry → Bool → List Data
entry_data how births clock rows x refused = flat_map (row_data how births clock x refused) rows ++ entry_marks clock x refused

unfoldable pub rows_after : Told → List Row → Entry → Bool → List Row
rows_after told rows x refused = map (row_after told x refused) rows ++ new_rows x

-- with what it adds of messages, where `arrivals` has for each the event that delivered it first
unfoldable pub whole_data : Contents → List Bearing → List Envelope → List ℕ → List ℕ → ℕ → List Row → Entry → Bool → List Data
whole_data how births envelopes sent arrivals clock rows x refused =
    entry_data how births clock rows x refused ++ entry_arrows envelopes sent arrivals rows clock x refused

-- `told` and `rows` are what stood before the entries
abbrev pub entries_data : Contents → List Bearing → List Envelope → List ℕ → List ℕ → Told → List Row → List Entry → List Data
entries_data how births envelopes sent arrivals told rows [] = flat_map (open_data how births told.events) rows
entries_data how births envelopes sent arrivals told rows (x ∷ rest) =
    whole_data how births envelopes sent arrivals (told_with told x rest).events rows x (refused_next rest)
    ++ entries_data how births envelopes sent arrivals (told_with told x rest)
    (rows_after (told_with told x rest) rows x (refused_next rest)) rest

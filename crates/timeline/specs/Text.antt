-- The timeline of a run as JSON.
use Rattle.std.specs.Prelude.{ℕ, List, [], ◌++◌, codes}
use Rattle.serde_json.specs.Data.{Data, string, array, object, member, no_members}
use Rattle.serde_json.specs.View.{items_of}
use Rattle.event_log.specs.Words.{births}
use Rattle.event_log.specs.Entries.{Entry}
use Rattle.log_words.specs.declared.contents.Contents.{Contents}
use Rattle.log_words.specs.Told.{nothing_told}
use Rattle.protocol_data.specs.declared.message.Envelope.{Envelope}
use Rattle.timeline.specs.Arrivals.{arrivals_in}
use Rattle.timeline.specs.Nodes.{greatest_node, names_of}
use Rattle.timeline.specs.Entries.{entries_data}

-- the names of the nodes, and what the entries add
abbrev pub trace_data : Contents → List Entry → List Envelope → List ℕ → List Data
trace_data how log envelopes sent =
    names_of (greatest_node envelopes log)
    ++ entries_data how (births log) envelopes sent (arrivals_in envelopes sent log) nothing_told [] log

-- the clock is the number of the event: the viewers show it as microseconds; `how` says whether long lists are cut, and `sent` is how many messages
-- had been sent behind each event
abbrev pub timeline_data : Contents → List Entry → List Envelope → List ℕ → Data
timeline_data how log envelopes sent =
    object (member (codes "displayTimeUnit") (string (codes "ms"))
    (member (codes "traceEvents") (array (items_of (trace_data how log envelopes sent))) no_members))

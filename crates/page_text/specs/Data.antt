-- What a page has of a run, as JSON.
use Rattle.std.specs.Prelude.{ℕ, List, codes}
use Rattle.serde_json.specs.Data.{Data, number, unsigned, string, object, member, no_members}
use Rattle.event_log.specs.Entries.{Entry}
use Rattle.report_text.specs.Report.{report_text}
use Rattle.log_words.specs.declared.contents.Contents.{Contents}
use Rattle.message_text.specs.Text.{log_with_messages}
use Rattle.protocol_data.specs.declared.cluster_state.ClusterState.{ClusterState}
use Rattle.state_text.specs.Text.{event_count, state_text}

-- the nodes and slots with which a cluster begins
abbrev pub cluster_data : ℕ → ℕ → Data
cluster_data nodes slots =
    object (member (codes "nodes") (number (unsigned nodes)) (member (codes "slots") (number (unsigned slots)) no_members))

-- the texts of a run, with its script and its cluster
abbrev pub run_data : List ℕ → ℕ → ℕ → List ℕ → List ℕ → List ℕ → Data
run_data script nodes slots log report state =
    object (member (codes "cluster") (cluster_data nodes slots) (member (codes "log") (string log) (member (codes "report") (string report)
    (member (codes "script") (string script) (member (codes "state") (string state) no_members)))))

-- every entry of the log in words, with the messages that each event sent; the report; and what is alive behind the last event. `how` says whether
-- long lists are cut, and `sent` is how many messages had been sent behind each event
abbrev pub page_data : Contents → List ℕ → ℕ → ℕ → List Entry → List ℕ → ClusterState → Data
page_data how script nodes slots log sent whole =
    run_data script nodes slots (log_with_messages how log whole.network sent) (report_text log) (state_text log whole (event_count log))

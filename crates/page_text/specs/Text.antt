-- The bytes of a run's page: the head, one line of JSON, and the tail.
use Rattle.std.specs.Prelude.{ℕ, List, ◌++◌}
use Rattle.std.specs.List.{flat_map}
use Rattle.serde_json.specs.Written.{compact_text}
use Rattle.event_log.specs.Entries.{Entry}
use Rattle.log_words.specs.declared.contents.Contents.{Contents}
use Rattle.protocol_data.specs.declared.cluster_state.ClusterState.{ClusterState}
use Rattle.page_text.specs.declared.frame.TheConstants.{HEAD, TAIL}
use Rattle.page_text.specs.Data.{page_data}
use Rattle.page_text.specs.Escaped.{escaped}

-- exactly the head, the JSON, and the tail; head and tail stand in src
abbrev pub page_text : Contents → List ℕ → ℕ → ℕ → List Entry → List ℕ → ClusterState → List ℕ
page_text how script nodes slots log sent whole =
    HEAD.now ++ (flat_map escaped (compact_text (page_data how script nodes slots log sent whole)) ++ TAIL.now)

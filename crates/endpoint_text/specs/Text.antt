-- Why a worker or a node is as it is.
use Rattle.std.specs.Prelude.{ℕ, List, [], ◌++◌, codes, length, Option, Some, None}
use Rattle.event_log.specs.Entries.{Entry}
use Rattle.event_log.specs.Events.{from_one}
use Rattle.event_log.specs.Words.{opened}
use Rattle.log_words.specs.declared.contents.Contents.{Contents}
use Rattle.protocol_data.specs.declared.node.Node.{Node}
use Rattle.protocol_data.specs.declared.cluster_state.ClusterState.{ClusterState}
use Rattle.main_text.specs.Links.{node_text, worker_text}
use Rattle.waits.specs.Tables.{node_at}
use Rattle.why_text.specs.Moments.{first_moment}
use Rattle.endpoint_text.specs.Nodes as nodes
use Rattle.endpoint_text.specs.Present.{present_text}
use Rattle.endpoint_text.specs.Told.{told}
use Rattle.endpoint_text.specs.Workers as workers

-- ---- a worker

-- There is no w7.
abbrev pub no_worker : ℕ → List ℕ
no_worker w = codes "There is no " ++ (worker_text w ++ codes ".\n")

unfoldable pub opened_note : ℕ → Option ℕ → List ℕ
opened_note w (Some n) = []
opened_note w None = no_worker w

-- what the log says of a worker, entry by entry; `how` says whether long lists are cut, and `lines` are the lines of the event file from which the
-- events came
abbrev pub worker_told : Contents → List Entry → List ℕ → ClusterState → ℕ → List ℕ
worker_told how log lines c w = told (workers.worker_sentence how log lines c.network (workers.subject_of log w)) lines log 0 first_moment log

-- and behind that what it made, and what it does now, by the tables and messages of the run
unfoldable pub worker_account : Contents → List Entry → List ℕ → ClusterState → ℕ → List ℕ
worker_account how log lines c w =
    opened_note w (from_one (opened log) w)
    ++ (worker_told how log lines c w ++ (workers.owned_text how log w ++ present_text how log lines c w))

-- ---- a node

-- There is no n9.
abbrev pub no_node : ℕ → List ℕ
no_node n = codes "There is no " ++ (node_text n ++ codes ".\n")

abbrev pub node_told : Contents → List Entry → List ℕ → ClusterState → nodes.Site → List ℕ
node_told how log lines c s = nodes.first_note log s ++ told (nodes.node_sentence how log lines c.network s) lines log 0 first_moment log

abbrev pub node_account_of : Contents → List Entry → List ℕ → ClusterState → ℕ → Option Node → List ℕ
node_account_of how log lines c n None = no_node n
node_account_of how log lines c n (Some x) = node_told how log lines c (nodes.site_of log (length c.nodes) n)

-- how a node came, then what the log says of it, entry by entry
unfoldable pub node_account : Contents → List Entry → List ℕ → ClusterState → ℕ → List ℕ
node_account how log lines c n = node_account_of how log lines c n (node_at c n)

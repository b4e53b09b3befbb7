-- What a worker does now.
use Rattle.std.specs.Prelude.{ℕ, Bool, true, false, ◌&&◌, ◌||◌, ◌==◌, if◌then◌else◌, List, [], ◌++◌, codes, Option, Some, None}
use Rattle.event_log.specs.Entries.{Entry}
use Rattle.log_words.specs.declared.contents.Contents.{Contents}
use Rattle.protocol_data.specs.declared.tables.Phase.{Phase}
use Rattle.protocol_data.specs.declared.tables.Phase.TheVariants.{HasEnded, HasFaulted}
use Rattle.protocol_data.specs.declared.tables.Execution.{Execution}
use Rattle.protocol_data.specs.declared.tables.Worker.{Worker}
use Rattle.protocol_data.specs.declared.cluster_state.ClusterState.{ClusterState}
use Rattle.waits.specs.Links.{worker_links}
use Rattle.waits.specs.Tables.{worker_at}
use Rattle.main_text.specs.Links.{links_text, worker_text}

abbrev pub has_stopped : Phase → Bool
has_stopped (HasEnded c) = true
has_stopped (HasFaulted f) = true
has_stopped _ = false

-- its attempt is over, and so the owner knows; main's, which has no other owner, once it has stopped
abbrev pub is_done : ℕ → Execution → Bool
is_done w r = r.is_acknowledged || ((w == 1) && has_stopped r.phase)

-- it has no attempt that is to go on
abbrev pub is_free : ℕ → Option Execution → Bool
is_free w None = true
is_free w (Some r) = is_done w r

-- w2 has nothing to do now.
abbrev pub free_text : ℕ → List ℕ
free_text w = worker_text w ++ codes " has nothing to do now.\n"

abbrev pub live_text : Contents → List Entry → List ℕ → ClusterState → ℕ → Bool → List ℕ
live_text how log lines c w free = if free then free_text w else links_text how log lines c (worker_links c w)

abbrev pub present_of : Contents → List Entry → List ℕ → ClusterState → ℕ → Option Worker → List ℕ
present_of how log lines c w None = []
present_of how log lines c w (Some x) = if x.is_live then live_text how log lines c w (is_free w x.run) else []

-- of a live worker, that it has nothing to do, or what keeps its attempt from going on, as of main
unfoldable pub present_text : Contents → List Entry → List ℕ → ClusterState → ℕ → List ℕ
present_text how log lines c w = present_of how log lines c w (worker_at c w)

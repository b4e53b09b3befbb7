-- Why main ended as it did, or for what it waits.
use Rattle.std.specs.Prelude.{List, None, Option, Some, [], codes, length, ℕ, ◌++◌}
use Rattle.meaning.specs.Values.{Outcome, Trapped, Val}
use Rattle.event_log.specs.Entries.{Entry, main_attempt}
use Rattle.event_log.specs.Words.{Lack, faults_of}
use Rattle.report_text.specs.of_report_lines.Main.{first, main_end}
use Rattle.log_words.specs.declared.contents.Contents.{Contents}
use Rattle.log_words.specs.Contents.{content_text}
use Rattle.protocol_data.specs.declared.cluster_state.ClusterState.{ClusterState}
use Rattle.waits.specs.Links.{links}
use Rattle.why_text.specs.Text.{main_lack_text}
use Rattle.main_text.specs.declared.happenings.Happening.TheVariants.{Stops}
use Rattle.main_text.specs.Happenings.{when_last}
use Rattle.main_text.specs.Links.{links_text}
use Rattle.main_text.specs.Traps.{traps_text}

-- Main ended in event 18 (commit 3, line 5): 49.
unfoldable pub ended_text : Contents → List Entry → List ℕ → ClusterState → Outcome → List ℕ
ended_text how log lines c content =
    codes "Main ended" ++ (when_last c.jobs lines log (Stops main_attempt) ++ (codes ": " ++ (content_text how content ++ codes ".\n")))

-- where its trap comes from
abbrev pub source_text : Contents → List Entry → List ℕ → ClusterState → Outcome → List ℕ
source_text how log lines c (Val v) = []
source_text how log lines c (Trapped t) = codes "\n" ++ traps_text how c.jobs log lines (length log) main_attempt

unfoldable pub open_text : Contents → List Entry → List ℕ → ClusterState → List ℕ
open_text how log lines c = codes "Main is open.\n\n" ++ links_text how log lines c (links c)

abbrev pub unended_text : Contents → List Entry → List ℕ → ClusterState → Option Lack → List ℕ
unended_text how log lines c None = open_text how log lines c
unended_text how log lines c (Some x) = main_lack_text how log lines x

abbrev pub end_text : Contents → List Entry → List ℕ → ClusterState → Option Outcome → List ℕ
end_text how log lines c None = unended_text how log lines c (first (faults_of main_attempt log))
end_text how log lines c (Some content) = ended_text how log lines c content ++ source_text how log lines c content

-- of a run's log, its tables and messages, and the lines of the event file from which its events came; `how` says whether long lists are cut
unfoldable pub main_text : Contents → List Entry → List ℕ → ClusterState → List ℕ
main_text how log lines c = end_text how log lines c (main_end log)

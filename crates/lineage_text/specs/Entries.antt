-- What each entry adds to the graph.
use Rattle.std.specs.Prelude.{ℕ, List, [], ◌++◌, codes}
use Rattle.meaning.specs.Values.{Id}
use Rattle.report.specs.ValueTexts.{id_text}
use Rattle.event_log.specs.Entries.{Fault, Entry, Begun, Born, Ended, Faulted, Resolved, Released}
use Rattle.log_words.specs.declared.contents.Contents.{Contents}
use Rattle.lineage_text.specs.Births.{born_text}
use Rattle.lineage_text.specs.Attempts.{begun_text, ended_text, fault_tail, faulted_text}

unfoldable pub resolved_head : Id → List ℕ
resolved_head o = codes "    \"" ++ (id_text o ++ codes "\" [xlabel=\"")

-- an object that will have no content is red, with its fault beside it
abbrev pub resolved_text : Id → Fault → List ℕ
resolved_text o f = resolved_head o ++ fault_tail f

-- the text of an object that was released is gray
unfoldable pub released_text : Id → List ℕ
released_text o = codes "    \"" ++ (id_text o ++ codes "\" [fontcolor=gray];\n")

-- beside the whole log, which says how attempts went on; `how` says whether long lists are cut
abbrev pub lineage_in : Contents → List Entry → Entry → List ℕ
lineage_in how log (Born o a b) = born_text how o b
lineage_in how log (Begun a w) = begun_text log a w
lineage_in how log (Ended a cs) = ended_text how log a cs
lineage_in how log (Faulted a y f) = faulted_text log a f
lineage_in how log (Resolved o f) = resolved_text o f
lineage_in how log (Released o) = released_text o
lineage_in how log _ = []

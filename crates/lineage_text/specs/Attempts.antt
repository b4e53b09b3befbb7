-- The node of an attempt, joined to the objects of its task.
use Rattle.std.specs.Prelude.{ℕ, ◌-◌, List, [], ◌++◌, Option, Some, None, codes, slice_get}
use Rattle.std.specs.List.{flat_map}
use Rattle.std.specs.Fmt.{decimal}
use Rattle.meaning.specs.Births.{objects_at}
use Rattle.meaning.specs.Values.{Id, Outcome}
use Rattle.values.specs.Listed.{ids_in_outcome, each_once}
use Rattle.report.specs.ValueTexts.{id_text}
use Rattle.event_log.specs.Entries.{Attempt, Fault, Entry}
use Rattle.event_log.specs.Words.{births}
use Rattle.report_text.specs.of_report_lines.Texts.{attempt_text, fault_text}
use Rattle.report_text.specs.of_report_lines.Attempts.{state_of}
use Rattle.log_words.specs.declared.contents.Contents.{Contents}
use Rattle.log_words.specs.Contents.{content_text}
use Rattle.lineage_text.specs.Edges.{named_edge}

-- the objects of the attempt's task, by the whole log
abbrev pub task_objects : List Entry → Attempt → List Id
task_objects log a = objects_at (births log) a.object

-- a1.1#0 on w2: accepted, where the state is by the whole log
unfoldable pub attempt_node : List Entry → Attempt → ℕ → List ℕ
attempt_node log a w =
    codes "    \"" ++ (attempt_text a ++ (codes "\" [label=\"" ++ (attempt_text a ++ (codes " on w" ++ (decimal w ++ (codes ": "
    ++ (state_of log a ++ codes "\", shape=plaintext];\n")))))))

unfoldable pub attempt_edge : Attempt → Id → List ℕ
attempt_edge a o = codes "    \"" ++ (id_text o ++ (codes "\" -> \"" ++ (attempt_text a ++ codes "\" [style=dotted, arrowhead=none];\n")))

abbrev pub begun_text : List Entry → Attempt → ℕ → List ℕ
begun_text log a w = attempt_node log a w ++ flat_map (attempt_edge a) (task_objects log a)

-- the label of the edge between an object and an attempt of its task begins
unfoldable pub fate_head : Attempt → Id → List ℕ
fate_head a o = codes "    \"" ++ (id_text o ++ (codes "\" -> \"" ++ (attempt_text a ++ codes "\" [label=\"")))

unfoldable pub fate_tail : List ℕ
fate_tail = codes "\"];\n"

-- what a content names is joined to its object
abbrev pub named_edges : Id → Outcome → List ℕ
named_edges o c = flat_map (named_edge o) (each_once (ids_in_outcome c))

abbrev pub content_edges : Contents → Attempt → Id → Option Outcome → List ℕ
content_edges how a o None = []
content_edges how a o (Some c) = fate_head a o ++ (content_text how c ++ (fate_tail ++ named_edges o c))

-- the content in the object's place is the label of its edge, and what it names is joined to the object
unfoldable pub result_edges : Contents → Attempt → List Outcome → Id → List ℕ
result_edges how a cs o = content_edges how a o (slice_get cs (o.serial - a.object.serial))

-- the contents with which an attempt ended, each at its object
abbrev pub ended_text : Contents → List Entry → Attempt → List Outcome → List ℕ
ended_text how log a cs = flat_map (result_edges how a cs) (task_objects log a)

-- a fault ends a red label
unfoldable pub fault_tail : Fault → List ℕ
fault_tail f = fault_text f ++ codes "\", color=red];\n"

abbrev pub fault_edge : Attempt → Fault → Id → List ℕ
fault_edge a f o = fate_head a o ++ fault_tail f

-- so is the fault with which an attempt ended, at each of its objects
abbrev pub faulted_text : List Entry → Attempt → Fault → List ℕ
faulted_text log a f = flat_map (fault_edge a f) (task_objects log a)

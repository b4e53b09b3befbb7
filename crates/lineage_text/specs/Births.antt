-- The nodes of the objects that a birth makes, with the edges that it gives them.
use Rattle.std.specs.Prelude.{ℕ, ◌+◌, ◌-◌, ◌==◌, if◌then◌else◌, List, [], ◌++◌, codes}
use Rattle.std.specs.List.{flat_map}
use Rattle.std.specs.Fmt.{decimal}
use Rattle.meaning.specs.Values.{Id, Birth, Put, Task}
use Rattle.report.specs.ValueTexts.{id_text}
use Rattle.log_words.specs.declared.contents.Contents.{Contents}
use Rattle.log_words.specs.Calls.{call_text}
use Rattle.log_words.specs.Contents.{shown_text}
use Rattle.log_words.specs.Ids.{ids_of}
use Rattle.log_words.specs.of_made_objects.Made.{objects_made}
use Rattle.lineage_text.specs.Edges.{named_edge, argument_edges}

unfoldable pub node_head : Id → List ℕ
node_head o = codes "    \"" ++ (id_text o ++ (codes "\" [label=\"" ++ (id_text o ++ codes ": ")))

-- a call, or put V
abbrev pub label_text : Contents → Birth → List ℕ
label_text how (Put v) = codes "put " ++ shown_text how v
label_text how (Task g args depth retries others) = call_text how g args

-- which of the call's results it is, counted from 0, if it isn't the first
unfoldable pub place_note : ℕ → List ℕ
place_note place = if place == 0 then [] else codes ", result " ++ decimal (place + 1)

-- tasks are boxes, and puts are round
unfoldable pub node_tail : Birth → List ℕ
node_tail (Put v) = codes "\", shape=ellipse];\n"
node_tail (Task g args depth retries others) = codes "\"];\n"

-- a put value may name objects, and a task is computed from those in its arguments
abbrev pub birth_edges : Id → Birth → List ℕ
birth_edges o (Put v) = flat_map (named_edge o) (ids_of v)
birth_edges o (Task g args depth retries others) = flat_map (argument_edges o) args

-- o1.1: two(4), and o1.2: two(4), result 2, where the first object of the birth is p
unfoldable pub node_text : Contents → Id → Birth → Id → List ℕ
node_text how p b o = node_head o ++ (label_text how b ++ (place_note (o.serial - p.serial) ++ node_tail b))

abbrev pub object_text : Contents → Id → Birth → Id → List ℕ
object_text how p b o = node_text how p b o ++ birth_edges o b

-- each object of the birth with this first one has a node, and the edges
abbrev pub born_text : Contents → Id → Birth → List ℕ
born_text how p b = flat_map (object_text how p b) (objects_made p b)

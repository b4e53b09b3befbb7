-- The graph of a log, for Graphviz.
use Rattle.std.specs.Prelude.{ℕ, List, ◌++◌, codes}
use Rattle.std.specs.List.{flat_map}
use Rattle.event_log.specs.Entries.{Entry}
use Rattle.log_words.specs.declared.contents.Contents.{Contents}
use Rattle.lineage_text.specs.Entries.{lineage_in}

-- main's own object is in each graph; a later statement of a node or an edge adds to the earlier ones
unfoldable pub graph_head : List ℕ
graph_head = codes "strict digraph lineage {\n    node [shape=box];\n    \"o1.0\" [label=\"o1.0: main()\"];\n"

abbrev pub lineage_text : Contents → List Entry → List ℕ
lineage_text how log = graph_head ++ (flat_map (lineage_in how log) log ++ codes "}\n")

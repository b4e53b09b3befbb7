-- How the graph writes from what an object is computed, and which objects a content names.
use Rattle.std.specs.Prelude.{ℕ, List, ◌++◌, codes}
use Rattle.std.specs.List.{flat_map}
use Rattle.meaning.specs.Values.{Id, Argument}
use Rattle.report.specs.ValueTexts.{id_text}
use Rattle.log_words.specs.Ids.{ids_of}

-- o is computed from p
abbrev pub argument_edge : Id → Id → List ℕ
argument_edge o p = codes "    \"" ++ (id_text p ++ (codes "\" -> \"" ++ (id_text o ++ codes "\";\n")))

-- a content of o names p
abbrev pub named_edge : Id → Id → List ℕ
named_edge o p = codes "    \"" ++ (id_text o ++ (codes "\" -> \"" ++ (id_text p ++ codes "\" [style=dashed];\n")))

abbrev pub argument_edges : Id → Argument → List ℕ
argument_edges o a = flat_map (argument_edge o) (ids_of a.value)

-- How functions are written in Python.
use Rattle.std.specs.Prelude.{ℕ, List, [], ◌++◌, codes}
use Rattle.std.specs.List.{flat_map}
use Rattle.meaning.specs.Values.{Name}
use Rattle.meaning.specs.Syntax.{Parameter, Function}
use Rattle.engine_text.specs.Expressions.{function_name, variable_name}
use Rattle.engine_text.specs.Statements.{block_text}

abbrev pub parameter_text : Parameter → List ℕ
parameter_text p = codes ", " ++ variable_name p.name

abbrev pub function_head : Name → List ℕ
function_head g = codes "\n\n@script\ndef " ++ (function_name g ++ codes "(depth")

-- a function of the script, whose first parameter is how deep its call is
unfoldable pub function_text : Function → List ℕ
function_text f = function_head f.name ++ (flat_map parameter_text f.parameters ++ (codes "):\n" ++ block_text [] f.body))

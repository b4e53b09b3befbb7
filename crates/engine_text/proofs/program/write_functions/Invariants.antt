use Rattle.std.proofs.Common.{◌≡◌, ◌++◌, string_bytes, take, map}
use Rattle.std.specs.List.{flat_map}
use Rattle.script_check.specs.Trees.{function_of}
use Rattle.engine_text.specs.Functions.{function_text}
use Rattle.engine_text.proofs.program.write_functions.Given as goal

abbrev pub invariant-loop-function : goal.invariant-loop-function
invariant-loop-function l =
    string_bytes l.text ≡ string_bytes l.fn.text ++ flat_map function_text (map function_of (take l.function-index l.functions))

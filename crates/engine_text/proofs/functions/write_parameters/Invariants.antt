use Rattle.std.proofs.Common.{◌≡◌, ◌++◌, string_bytes, take, map}
use Rattle.std.specs.List.{flat_map}
use Rattle.script_check.specs.Trees.{parameter_of}
use Rattle.engine_text.specs.Functions.{parameter_text}
use Rattle.engine_text.proofs.functions.write_parameters.Given as goal

abbrev pub invariant-loop-parameter : goal.invariant-loop-parameter
invariant-loop-parameter l =
    string_bytes l.text ≡ string_bytes l.fn.text ++ flat_map parameter_text (map parameter_of (take l.parameter-index l.parameters))

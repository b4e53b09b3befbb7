use Rattle.std.proofs.Common.{◌≡◌, ◌++◌, drop, map}
use Rattle.frame_laws.specs.Compile.{parameter_names}
use Rattle.script_check.specs.Trees.{parameter_of}
use Rattle.frame_code.specs.Views.{names_of}
use Rattle.frame_code.proofs.functions.parameter_names.Given as goal

-- the names so far with those that are left
abbrev pub invariant-loop-parameter : goal.invariant-loop-parameter
invariant-loop-parameter l =
    names_of l.names.items ++ parameter_names (map parameter_of (drop l.parameter-index l.parameters)) ≡ parameter_names (map parameter_of l.parameters)

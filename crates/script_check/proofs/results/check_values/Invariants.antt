use Rattle.std.proofs.Common.{◌≡◌, drop, map}
use Rattle.script_syntax.specs.Views.{program_of, trees_of, type_of}
use Rattle.script_check.specs.Scopes.{context_of}
use Rattle.script_check.specs.Typings.{onto}
use Rattle.script_check.specs.Inference.{infer_results}
use Rattle.script_check.proofs.results.check_values.Given as goal

abbrev pub invariant-loop-i : goal.invariant-loop-i
invariant-loop-i l =
    onto l.checked.items (infer_results (program_of l.functions) (context_of l.scope) (trees_of (drop l.i l.values)) (map type_of (drop l.i l.kinds)))
    ≡ onto l.fn.checked.items (infer_results (program_of l.functions) (context_of l.scope) (trees_of l.values) (map type_of l.kinds))

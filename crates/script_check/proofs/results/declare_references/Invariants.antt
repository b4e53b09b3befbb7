use Rattle.std.proofs.Common.{◌≡◌, drop, map}
use Rattle.script_syntax.specs.Trees.{RefType}
use Rattle.script_syntax.specs.Views.{name_of, type_of}
use Rattle.script_check.specs.Scopes.{context_of}
use Rattle.script_check.specs.Inference.{bound}
use Rattle.script_check.proofs.results.declare_references.Given as goal

abbrev pub invariant-loop-i : goal.invariant-loop-i
invariant-loop-i l =
    bound (context_of l.scope.items) (map name_of (drop l.i l.names)) (map RefType (map type_of (drop l.i l.kinds)))
    ≡ bound (context_of l.fn.scope.items) (map name_of l.names) (map RefType (map type_of l.kinds))

use Rattle.std.proofs.Common.{◌≡◌, [], ◌∷◌, drop, take, map}
use Rattle.script_syntax.specs.Views.{name_of}
use Rattle.script_check.specs.Scopes.{context_of}
use Rattle.script_check.specs.Inference.{new_names}
use Rattle.script_check.proofs.results.check_names.Given as goal

abbrev pub invariant-loop-i : goal.invariant-loop-i
invariant-loop-i l =
    new_names (context_of l.scope) (name_of l.first ∷ map name_of (take l.i l.others)) (map name_of (drop l.i l.others))
    ≡ new_names (context_of l.scope) [] (name_of l.first ∷ map name_of l.others)

use Rattle.std.proofs.Common.{◌≡◌, drop}
use Rattle.meaning.specs.Kinds.{kind_in}
use Rattle.script_check.specs.Scopes.{context_of}
use Rattle.script_check.proofs.scope.look_up.Given as goal

abbrev pub invariant-loop-variable : goal.invariant-loop-variable
invariant-loop-variable l = kind_in (context_of (drop l.variable-index l.scope)) l.name ≡ kind_in (context_of l.scope) l.name

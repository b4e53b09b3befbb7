use Rattle.std.proofs.Common.{sym, ap, ◌∙◌, subst}
use Rattle.script_check.specs.Trees.{script_of}
use Rattle.script_check.specs.Scripts.{IsWellTyped}
use Rattle.script_check.proofs.checked.Checked.copy.Goals as goal

pub invariant_of-result : goal.invariant_of-result
invariant_of-result c =
    subst IsWellTyped (sym (c.in_ok-functions.ensures ∙ ap script_of c.deref.ensures.value)) c.self.invariant

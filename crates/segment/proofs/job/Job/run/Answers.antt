use Rattle.std.proofs.Common.{sym, subst}
use Rattle.meaning.specs.Syntax.{Script}
use Rattle.evaluation.specs.of_script_check.Trees.{script_of}
use Rattle.evaluation.specs.of_script_check.Scripts.{IsWellTyped}
use Rattle.segment.specs.Jobs.{IsBegun}
use Rattle.segment.proofs.Safe.{never_broken}
use Rattle.segment.proofs.job.Job.run.Goals as goal

pub unreachable-requires : goal.unreachable-requires
unreachable-requires g c =
    let j = c.deref.result.now in
    let script = script_of c.args.script.now in
    let Begun : Script → Type 0 = λ s. IsBegun s j in
    let own = subst (λ p. IsBegun g.S.ScriptName.script p) (sym c.deref.ensures) c.self.invariant.0 in
    let begun = subst Begun (sym c.requires) own in
    let typed = subst (λ fs. IsWellTyped (script_of fs)) c.script.ensures c.functions.ensures.well_typed in
    never_broken c.checked_scripts_are_safe.ensures script typed.checks j begun (c.in-Err-Broken.ensures.broken c.in-Err-Broken.field-0-is)

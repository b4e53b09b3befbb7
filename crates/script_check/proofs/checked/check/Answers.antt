use Rattle.std.proofs.Common.{rules, ◌≡◌, true, false, [], Some, sym, ap, ◌∙◌, subst}
use Rattle.std.specs.Prelude.{IsTrue}
use Rattle.script_syntax.specs.Views.{program_of}
use Rattle.script_check.specs.Refusals.{is_refusal}
use Rattle.script_check.specs.Trees.{script_of}
use Rattle.script_check.specs.Rules.{IsCheckedOf}
use Rattle.script_check.specs.Inference.{are_apart, functions_from}
use Rattle.script_check.specs.declared.error.CheckError.TheVariants.{NoMemory}
use Rattle.script_check.proofs.Programs.{program_sound, apart_is, functions_are, one_checked, memory_only}
use Rattle.script_check.proofs.Safe.{well_typed}
use Rattle.script_check.proofs.checked.check.Goals as goal

-- where names, functions or main are refused, the rules allow no script
pub returns-in_err-check_names-clause-only : goal.returns-in_err-check_names-clause-only
returns-in_err-check_names-clause-only c script h =
    let p : are_apart [] (program_of c.args.program.functions.items) ≡ true = apart_is _ script h in
    let q : are_apart [] (program_of c.args.program.functions.items) ≡ false = ap (λ fs. are_apart [] (program_of fs)) (sym c.functions_of-functions.ensures) ∙ c.in_err-check_names.ensures.refused in
    absurd (cc)

pub returns-in_err-functions-clause-only : goal.returns-in_err-functions-clause-only
returns-in_err-functions-clause-only c script h =
    let p : functions_from (program_of c.args.program.functions.items) (program_of c.args.program.functions.items) ≡ Some script = functions_are _ script h in
    let q = λ (told : IsTrue (is_refusal c.in_err-functions.field-0.0)). ap (λ fs. functions_from (program_of fs) (program_of fs)) (sym c.functions_of-functions.ensures) ∙ c.in_err-functions.ensures.refused told in
    let f : c.in_err-functions.field-0.0 ≡ NoMemory = memory_only c.in_err-functions.field-0.0 (λ told. let r = q told in cc) in
    search (rules, f)

-- what was checked is well typed
pub invariant_of-result : goal.invariant_of-result
invariant_of-result c =
    well_typed (program_of c.functions_of-functions.result.now) (script_of c.in_ok-functions.functions.items)
    (program_sound (program_of c.functions_of-functions.result.now) (script_of c.in_ok-functions.functions.items) c.in_ok-check_names.ensures.value c.in_ok-check_main.ensures.value c.in_ok-functions.ensures.value)

-- it is what the program becomes by the rules
pub returns-clause-found : goal.returns-clause-found
returns-clause-found c =
    subst (λ fs. IsCheckedOf (program_of fs) (script_of c.in_ok-functions.functions.items)) c.functions_of-functions.ensures
    (program_sound (program_of c.functions_of-functions.result.now) (script_of c.in_ok-functions.functions.items) c.in_ok-check_names.ensures.value c.in_ok-check_main.ensures.value c.in_ok-functions.ensures.value)

pub returns-clause-only : goal.returns-clause-only
returns-clause-only c script h =
    one_checked (program_of c.args.program.functions.items) (script_of c.in_ok-functions.functions.items) script
    (subst (λ fs. IsCheckedOf (program_of fs) (script_of c.in_ok-functions.functions.items)) c.functions_of-functions.ensures
    (program_sound (program_of c.functions_of-functions.result.now) (script_of c.in_ok-functions.functions.items) c.in_ok-check_names.ensures.value c.in_ok-check_main.ensures.value c.in_ok-functions.ensures.value)) h

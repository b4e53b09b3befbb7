use Rattle.std.proofs.Common.{rules, ◌≡◌, ◌++◌, Some, string_bytes, sym, ap, ◌∙◌, arith}
use Rattle.script_syntax.specs.Views.{parameter_of as parsed_parameter}
use Rattle.script_check.specs.Rules.{variable, parameter_named}
use Rattle.script_check.specs.Trees.{kind_of, parameter_of}
use Rattle.script_check.specs.Scopes.{context_of}
use Rattle.script_check.specs.Inference.{fresh}
use Rattle.script_check.specs.declared.tree.CheckedParameter.{CheckedParameter}
use Rattle.script_check.proofs.Whole.{parameters_step, parameters_end}
use Rattle.script_check.proofs.functions.check_parameters.Goals as goal

pub loop-parameter-preserved : goal.loop-parameter-preserved
loop-parameter-preserved c =
    let p = c.parameter-item.result in
    let x : string_bytes c.in_ok-name.name ≡ string_bytes p.name.text = search rules in
    let before = context_of c.loop-parameter.scope.items in
    let new : fresh before (string_bytes p.name.text) ≡ Some tt = ap (λ xs. fresh (context_of xs) (string_bytes p.name.text)) (sym c.deref.ensures.value) ∙ c.in_ok-check_fresh.ensures.value in
    let is : context_of c.declare.new.scope.items ≡ before ++ variable (string_bytes p.name.text) (kind_of p.kind) = c.in_ok-declare.ensures.value ∙ ap (λ k. before ++ variable (string_bytes p.name.text) k) c.in_ok-kind.ensures in
    let made : CheckedParameter = record { name = c.in_ok-name.name; kind = c.in_ok-kind-2.kind } in
    let same : parameter_of made ≡ parameter_named (parsed_parameter p) = ap (λ y. record { name = y; kind = kind_of c.in_ok-kind-2.kind }) x ∙ ap (λ k. record { name = string_bytes p.name.text; kind = k }) c.in_ok-kind-2.ensures in
    rw c.in_ok-push.ensures.items (parameters_step c.loop-parameter.checked.items made c.args.parameters.now c.loop-parameter.parameter-index p before (context_of c.declare.new.scope.items) _ c.loop-parameter-test.true c.parameter-item.is c.loop-parameter.invariant new is same)

pub returns-clause-value : goal.returns-clause-value
returns-clause-value c =
    parameters_end c.loop-parameter.checked.items c.args.parameters.now c.loop-parameter.parameter-index (context_of c.loop-parameter.scope.items) _ (omega (arith, c.loop-parameter-test.false)) c.loop-parameter.invariant

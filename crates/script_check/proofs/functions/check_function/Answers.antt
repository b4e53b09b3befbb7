use Rattle.std.proofs.Common.{rules, ◌≡◌, true, [], Some, map, string_bytes, refl, sym, ap, ◌∙◌}
use Rattle.script_syntax.specs.Views.{program_of, type_of, parameter_of as parsed_parameter, function_of as parsed_function, statements_of as parsed_statements}
use Rattle.script_check.specs.Trees.{kind_named, kind_of, parameter_of, function_of}
use Rattle.script_check.specs.Scopes.{context_of}
use Rattle.script_check.specs.Inference.{declared, Declared, block_from, block_returns}
use Rattle.script_check.proofs.Whole.{kinds_are, function_gives}
use Rattle.script_check.proofs.functions.check_function.Goals as goal

pub returns-clause-value : goal.returns-clause-value
returns-clause-value c =
    let f = c.args.function.now in
    let program = program_of c.args.functions.now in
    let scope = context_of c.check_parameters.new.scope.items in
    let d : Declared = record { parameters = map parameter_of c.in_ok-parameters.parameters.items; context = scope } in
    let params : declared (map parsed_parameter f.parameters.items) [] ≡ Some d = ap (λ qs. declared (map parsed_parameter qs) []) (sym c.deref.ensures.value) ∙ ap (λ xs. declared (map parsed_parameter c.deref.result.now) (context_of xs)) (sym c.new-scope.ensures.items) ∙ c.in_ok-parameters.ensures.value in
    let body = ap (λ ss. block_from program (parsed_function f) (parsed_statements ss) scope) (sym c.deref-2.ensures.value) ∙ c.in_ok-body.ensures.value in
    let z : c.block_returns.result ≡ true = search rules in
    let every : block_returns (parsed_statements f.body.statements.items) ≡ true = ap (λ ss. block_returns (parsed_statements ss)) (sym c.deref-3.ensures.value) ∙ sym c.block_returns.ensures ∙ z in
    let name : string_bytes c.in_ok-name.name ≡ string_bytes f.name.text = search rules in
    let others : map kind_of c.in_ok-others.others.items ≡ map kind_named (map type_of f.others.items) = c.in_ok-others.ensures ∙ ap (map kind_of) c.deref-4.ensures.value ∙ kinds_are f.others.items in
    function_gives program (parsed_function f) d (function_of (record { name = c.in_ok-name.name; parameters = c.in_ok-parameters.parameters; result = c.in_ok-result.result; others = c.in_ok-others.others; body = c.in_ok-body.body })) params body every name refl c.in_ok-result.ensures others

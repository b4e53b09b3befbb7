use Rattle.std.proofs.Common.{rules, ◌≡◌, [], ◌∷◌, ◌++◌, None, Some, length, map, string_bytes, sym, ap, ◌∙◌}
use Rattle.std.specs.Prelude.{IsTrue}
use Rattle.std.proofs.lemmas.List.{length-map}
use Rattle.meaning.specs.Syntax as syntax
use Rattle.script_syntax.specs.Views.{program_of, trees_of, type_of, name_of, parameter_of as parsed_parameter, function_of as parsed_function}
use Rattle.script_check.specs.Refusals.{is_refusal}
use Rattle.script_check.specs.Rules.{variable}
use Rattle.script_check.specs.Trees.{exprs_of}
use Rattle.script_check.specs.Scopes.{context_of}
use Rattle.script_check.specs.Inference.{infer_arguments, new_names, bound, let_call_step}
use Rattle.script_check.proofs.Arms.{count_trees}
use Rattle.script_check.proofs.Values.{let_call_uncalled, let_call_misfits, let_call_gives}
use Rattle.script_check.proofs.results.check_let_call.Goals as goal

-- a function that can't be called so, or wrong arguments: the rules infer nothing either
pub returns-in_err-function-clause-refused : goal.returns-in_err-function-clause-refused
returns-in_err-function-clause-refused c =
    let program = program_of c.args.functions.now in
    let before = context_of c.args.scope.now.items in
    let x = name_of c.args.name.now in
    let others = map name_of c.args.others.now in
    let new : new_names before [] (x ∷ others) ≡ Some tt = ap (λ xs. new_names (context_of xs) [] (x ∷ others)) (sym c.deref.ensures.value) ∙ c.in_ok-check_names.ensures.value in
    let f : IsTrue (is_refusal c.in_err-function.field-0.0) → let_call_step program before x others (name_of c.args.called.now) (trees_of c.args.arguments.now) ≡ None = λ told. let_call_uncalled program before x others (name_of c.args.called.now) (trees_of c.args.arguments.now) (length c.args.others.now) (length c.args.arguments.now) (length-map c.args.others.now name_of) (count_trees c.args.arguments.now) new c.in_err-function.ensures.refused in
    search (rules, f)

pub returns-in_err-checked-clause-refused : goal.returns-in_err-checked-clause-refused
returns-in_err-checked-clause-refused c =
    let program = program_of c.args.functions.now in
    let before = context_of c.args.scope.now.items in
    let x = name_of c.args.name.now in
    let others = map name_of c.args.others.now in
    let args = trees_of c.args.arguments.now in
    let called = c.in_ok-function.function.now in
    let new : new_names before [] (x ∷ others) ≡ Some tt = ap (λ xs. new_names (context_of xs) [] (x ∷ others)) (sym c.deref.ensures.value) ∙ c.in_ok-check_names.ensures.value in
    let f : IsTrue (is_refusal c.in_err-checked.field-0.0) → let_call_step program before x others (name_of c.args.called.now) args ≡ None = λ told. let_call_misfits program before x others (name_of c.args.called.now) args (length c.args.others.now) (length c.args.arguments.now) (parsed_function called) (length-map c.args.others.now name_of) (count_trees c.args.arguments.now) new c.in_ok-function.ensures.value
    (ap (λ xs. infer_arguments program (context_of xs) args (map parsed_parameter called.parameters.items)) (sym c.deref-2.ensures.value) ∙ ap (λ ps. infer_arguments program (context_of c.deref-2.result.now) args (map parsed_parameter ps)) (sym c.deref-3.ensures.value) ∙ c.in_err-checked.ensures.refused told) in
    search (rules, f)

-- else the statement, and the scope behind it, are what the rules infer
pub returns-clause-value : goal.returns-clause-value
returns-clause-value c =
    let program = program_of c.args.functions.now in
    let before = context_of c.args.scope.now.items in
    let x = name_of c.args.name.now in
    let others = map name_of c.args.others.now in
    let g = name_of c.args.called.now in
    let args = trees_of c.args.arguments.now in
    let called = c.in_ok-function.function.now in
    let cs = exprs_of c.in_ok-checked.checked.items in
    let after = context_of c.declare_all.new.scope.items in
    let new : new_names before [] (x ∷ others) ≡ Some tt = ap (λ xs. new_names (context_of xs) [] (x ∷ others)) (sym c.deref.ensures.value) ∙ c.in_ok-check_names.ensures.value in
    let given : infer_arguments program before args (map parsed_parameter called.parameters.items) ≡ Some cs = ap (λ xs. infer_arguments program (context_of xs) args (map parsed_parameter called.parameters.items)) (sym c.deref-2.ensures.value) ∙ ap (λ ps. infer_arguments program (context_of c.deref-2.result.now) args (map parsed_parameter ps)) (sym c.deref-3.ensures.value) ∙ c.in_ok-checked.ensures.value in
    let is : after ≡ bound before (x ∷ others) (type_of called.result ∷ map type_of called.others.items) = c.in_ok-declare_all.ensures.value ∙ ap (λ ts. bound (context_of c.declare.new.scope.items) others (map type_of ts)) c.deref-4.ensures.value ∙ ap (λ z. bound z others (map type_of called.others.items)) (c.in_ok-declare.ensures.value ∙ ap (λ k. before ++ variable x k) c.in_ok-copy_type.ensures) in
    let x' : string_bytes c.in_ok-clone.field-0 ≡ x = search rules in
    let g' : string_bytes c.in_ok-called.called ≡ g = search rules in
    let_call_gives program before x others g args (length c.args.others.now) (length c.args.arguments.now) (parsed_function called) cs after (length-map c.args.others.now name_of) (count_trees c.args.arguments.now) new c.in_ok-function.ensures.value given is
    ∙ ap (λ y. Some (record { stmt = syntax.LetCall y others g cs; after = after })) (sym x')
    ∙ ap (λ ys. Some (record { stmt = syntax.LetCall (string_bytes c.in_ok-clone.field-0) ys g cs; after = after })) (sym c.in_ok-others.ensures)
    ∙ ap (λ h. Some (record { stmt = syntax.LetCall (string_bytes c.in_ok-clone.field-0) (map string_bytes c.in_ok-others.others.items) h cs; after = after })) (sym g')

use Rattle.std.proofs.Common.{rules, ◌≡◌, [], ◌∷◌, ◌++◌, None, Some, length, map, string_bytes, sym, ap, ◌∙◌}
use Rattle.std.specs.Prelude.{IsTrue}
use Rattle.std.proofs.lemmas.List.{length-map}
use Rattle.meaning.specs.Syntax.{RefKind}
use Rattle.meaning.specs.Syntax as syntax
use Rattle.script_syntax.specs.Trees.{RefType}
use Rattle.script_syntax.specs.Views.{program_of, trees_of, type_of, name_of, retries_of as parsed_retries, parameter_of as parsed_parameter, function_of as parsed_function}
use Rattle.script_check.specs.Refusals.{is_refusal}
use Rattle.script_check.specs.Rules.{variable}
use Rattle.script_check.specs.Trees.{exprs_of}
use Rattle.script_check.specs.Scopes.{context_of}
use Rattle.script_check.specs.Typings.{marked_of}
use Rattle.script_check.specs.Inference.{infer_marked, new_names, bound, let_remote_step}
use Rattle.script_check.proofs.Arms.{count_trees}
use Rattle.script_check.proofs.Values.{let_remote_overmuch, let_remote_uncalled, let_remote_misfits, let_remote_gives}
use Rattle.script_check.proofs.results.check_let_remote.Goals as goal

-- too many new runs, a function that can't be called so, or wrong arguments: the rules infer nothing either
pub returns-in_err-retries-clause-refused : goal.returns-in_err-retries-clause-refused
returns-in_err-retries-clause-refused c =
    let before = context_of c.args.scope.now.items in
    let x = name_of c.args.name.now in
    let others = map name_of c.args.others.now in
    let new : new_names before [] (x ∷ others) ≡ Some tt = ap (λ xs. new_names (context_of xs) [] (x ∷ others)) (sym c.deref.ensures.value) ∙ c.in_ok-check_names.ensures.value in
    let f : IsTrue (is_refusal c.in_err-retries.field-0.0) → let_remote_step (program_of c.args.functions.now) before x others (parsed_retries c.args.written) (name_of c.args.called.now) (trees_of c.args.arguments.now) ≡ None =
    λ told. let_remote_overmuch (program_of c.args.functions.now) before x others (parsed_retries c.args.written) (name_of c.args.called.now) (trees_of c.args.arguments.now) new c.in_err-retries.ensures.refused in
    search (rules, f)

pub returns-in_err-function-clause-refused : goal.returns-in_err-function-clause-refused
returns-in_err-function-clause-refused c =
    let program = program_of c.args.functions.now in
    let before = context_of c.args.scope.now.items in
    let x = name_of c.args.name.now in
    let others = map name_of c.args.others.now in
    let written = parsed_retries c.args.written in
    let new : new_names before [] (x ∷ others) ≡ Some tt = ap (λ xs. new_names (context_of xs) [] (x ∷ others)) (sym c.deref.ensures.value) ∙ c.in_ok-check_names.ensures.value in
    let f : IsTrue (is_refusal c.in_err-function.field-0.0) → let_remote_step program before x others written (name_of c.args.called.now) (trees_of c.args.arguments.now) ≡ None =
    λ told. let_remote_uncalled program before x others written (name_of c.args.called.now) (trees_of c.args.arguments.now) _ (length c.args.others.now) (length c.args.arguments.now) (length-map c.args.others.now name_of) (count_trees c.args.arguments.now) new c.in_ok-retries.ensures.value c.in_err-function.ensures.refused in
    search (rules, f)

pub returns-in_err-marked-clause-refused : goal.returns-in_err-marked-clause-refused
returns-in_err-marked-clause-refused c =
    let program = program_of c.args.functions.now in
    let before = context_of c.args.scope.now.items in
    let x = name_of c.args.name.now in
    let others = map name_of c.args.others.now in
    let written = parsed_retries c.args.written in
    let args = trees_of c.args.arguments.now in
    let called = c.in_ok-function.function.now in
    let new : new_names before [] (x ∷ others) ≡ Some tt = ap (λ xs. new_names (context_of xs) [] (x ∷ others)) (sym c.deref.ensures.value) ∙ c.in_ok-check_names.ensures.value in
    let f : IsTrue (is_refusal c.in_err-marked.field-0.0) → let_remote_step program before x others written (name_of c.args.called.now) args ≡ None =
    λ told. let_remote_misfits program before x others written (name_of c.args.called.now) args _ (length c.args.others.now) (length c.args.arguments.now) (length-map c.args.others.now name_of) (count_trees c.args.arguments.now) new c.in_ok-retries.ensures.value (parsed_function called) c.in_ok-function.ensures.value
    (ap (λ xs. infer_marked program (context_of xs) args (map parsed_parameter called.parameters.items)) (sym c.deref-2.ensures.value) ∙ ap (λ ps. infer_marked program (context_of c.deref-2.result.now) args (map parsed_parameter ps)) (sym c.deref-3.ensures.value) ∙ c.in_err-marked.ensures.refused told) in
    search (rules, f)

-- else the statement, and the scope behind it, are what the rules infer
pub returns-clause-value : goal.returns-clause-value
returns-clause-value c =
    let program = program_of c.args.functions.now in
    let before = context_of c.args.scope.now.items in
    let x = name_of c.args.name.now in
    let others = map name_of c.args.others.now in
    let written = parsed_retries c.args.written in
    let g = name_of c.args.called.now in
    let args = trees_of c.args.arguments.now in
    let called = c.in_ok-function.function.now in
    let m = c.in_ok-marked.marked in
    let k = c.in_ok-retries.retries in
    let cs = exprs_of m.exprs.items in
    let after = context_of c.declare_references.new.scope.items in
    let new : new_names before [] (x ∷ others) ≡ Some tt = ap (λ xs. new_names (context_of xs) [] (x ∷ others)) (sym c.deref.ensures.value) ∙ c.in_ok-check_names.ensures.value in
    let given : infer_marked program before args (map parsed_parameter called.parameters.items) ≡ Some (marked_of m) = ap (λ xs. infer_marked program (context_of xs) args (map parsed_parameter called.parameters.items)) (sym c.deref-2.ensures.value) ∙ ap (λ ps. infer_marked program (context_of c.deref-2.result.now) args (map parsed_parameter ps)) (sym c.deref-3.ensures.value) ∙ c.in_ok-marked.ensures.value in
    let is : after ≡ bound before (x ∷ others) (map RefType (type_of called.result ∷ map type_of called.others.items)) = c.in_ok-declare_references.ensures.value ∙ ap (λ ts. bound (context_of c.declare.new.scope.items) others (map RefType (map type_of ts))) c.deref-4.ensures.value ∙ ap (λ z. bound z others (map RefType (map type_of called.others.items))) (c.in_ok-declare.ensures.value ∙ ap (λ t. before ++ variable x t) c.in_ok-reference_to.ensures) in
    let x' : string_bytes c.in_ok-name.name ≡ x = search rules in
    let g' : string_bytes c.in_ok-called.called ≡ g = search rules in
    let_remote_gives program before x others written g args k (length c.args.others.now) (length c.args.arguments.now) (length-map c.args.others.now name_of) (count_trees c.args.arguments.now) new c.in_ok-retries.ensures.value (parsed_function called) (marked_of m) after c.in_ok-function.ensures.value given is
    ∙ ap (λ y. Some (record { stmt = syntax.LetRemote y others k g m.marks.items cs; after = after })) (sym x')
    ∙ ap (λ ys. Some (record { stmt = syntax.LetRemote (string_bytes c.in_ok-name.name) ys k g m.marks.items cs; after = after })) (sym c.in_ok-others.ensures)
    ∙ ap (λ h. Some (record { stmt = syntax.LetRemote (string_bytes c.in_ok-name.name) (map string_bytes c.in_ok-others.others.items) k h m.marks.items cs; after = after })) (sym g')

use Rattle.std.proofs.Common.{rules, ◌≡◌, None, Some, string_bytes, sym, ap, ◌∙◌}
use Rattle.std.specs.Prelude.{IsTrue}
use Rattle.meaning.specs.Syntax as syntax
use Rattle.script_syntax.specs.Views.{program_of, tree_of}
use Rattle.script_check.specs.Refusals.{is_refusal}
use Rattle.script_check.specs.Trees.{expr_of}
use Rattle.script_check.specs.Scopes.{context_of}
use Rattle.script_check.specs.Typings.{typing_of}
use Rattle.script_check.specs.Inference.{infer, fresh, let_step}
use Rattle.script_check.proofs.Blocks.{let_fails, let_gives}
use Rattle.script_check.proofs.statements.check_let.Goals as goal

pub returns-in_err-typing-clause-refused : goal.returns-in_err-typing-clause-refused
returns-in_err-typing-clause-refused c =
    let f : IsTrue (is_refusal c.in_err-typing.field-0.0) → let_step (program_of c.args.functions.now) (context_of c.args.scope.now.items) (string_bytes c.args.name.now.text) (tree_of c.args.expr.now) ≡ None = λ told. let_fails (program_of c.args.functions.now) (context_of c.args.scope.now.items) (string_bytes c.args.name.now.text) (tree_of c.args.expr.now) (ap (λ xs. fresh (context_of xs) (string_bytes c.args.name.now.text)) (sym c.deref.ensures.value) ∙ c.in_ok-check_fresh.ensures.value) (ap (λ xs. infer (program_of c.args.functions.now) (context_of xs) (tree_of c.args.expr.now)) (sym c.deref-2.ensures.value) ∙ c.in_err-typing.ensures.refused told) in
    search (rules, f)

pub returns-clause-value : goal.returns-clause-value
returns-clause-value c =
    let x : string_bytes c.in_ok-clone.field-0 ≡ (string_bytes c.args.name.now.text) = search rules in
    let_gives (program_of c.args.functions.now) (context_of c.args.scope.now.items) (context_of c.declare.new.scope.items) (string_bytes c.args.name.now.text) (tree_of c.args.expr.now) (typing_of c.in_ok-typing.typing) (ap (λ xs. fresh (context_of xs) (string_bytes c.args.name.now.text)) (sym c.deref.ensures.value) ∙ c.in_ok-check_fresh.ensures.value) (ap (λ xs. infer (program_of c.args.functions.now) (context_of xs) (tree_of c.args.expr.now)) (sym c.deref-2.ensures.value) ∙ c.in_ok-typing.ensures.value) c.in_ok-declare.ensures.value
    ∙ ap (λ y. Some (record { stmt = syntax.Let y (expr_of c.in_ok-typing.typing.expr); after = context_of c.declare.new.scope.items })) (sym x)

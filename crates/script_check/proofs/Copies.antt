-- Steps of the proofs on copies.
use Rattle.std.proofs.Common.{◌≡◌, ℕ, ◌+◌, ◌<◌, ◌≤◌, List, [], ◌∷◌, ◌++◌, length, get_or, drop, refl, sym, ap, ◌∙◌}
use Rattle.meaning.specs.Syntax.{Exprs, Block, end, also, done, step}
use Rattle.script_check.specs.Trees.{expr_of, exprs_of, statement_of, statements_of}
use Rattle.script_check.specs.Typings.{joined, joined_steps}
use Rattle.script_check.specs.declared.tree.CheckedExpr.{CheckedExpr}
use Rattle.script_check.specs.declared.tree.CheckedStatement.{CheckedStatement}
use Rattle.script_check.proofs.Arms.{here, drop_end}

exprs_snoc : (cs : List CheckedExpr) (c : CheckedExpr) (es : Exprs) → joined (cs ++ c ∷ []) es ≡ joined cs (also (expr_of c) es)
exprs_snoc [] c es = refl
exprs_snoc (d ∷ cs) c es = ap (also (expr_of d)) (exprs_snoc cs c es)

exprs_joined : (cs : List CheckedExpr) → joined cs end ≡ exprs_of cs
exprs_joined [] = refl
exprs_joined (c ∷ cs) = ap (also (expr_of c)) (exprs_joined cs)

pub exprs_step : (cs : List CheckedExpr) (c : CheckedExpr) (es : List CheckedExpr) (i : ℕ) (e : CheckedExpr) (whole : Exprs) → i < length es → e ≡ get_or es i e → joined cs (exprs_of (drop i es)) ≡ whole → expr_of c ≡ expr_of e → joined (cs ++ c ∷ []) (exprs_of (drop (i + 1) es)) ≡ whole
exprs_step cs c es i e whole h is so same =
    exprs_snoc cs c (exprs_of (drop (i + 1) es)) ∙ ap (λ x. joined cs (also x (exprs_of (drop (i + 1) es)))) same ∙ sym (ap (λ ys. joined cs (exprs_of ys)) (here es i e h is)) ∙ so

pub exprs_end : (cs es : List CheckedExpr) (i : ℕ) (whole : Exprs) → length es ≤ i → joined cs (exprs_of (drop i es)) ≡ whole → exprs_of cs ≡ whole
exprs_end cs es i whole h so = sym (exprs_joined cs) ∙ sym (ap (λ ys. joined cs (exprs_of ys)) (drop_end es i h)) ∙ so

steps_snoc : (cs : List CheckedStatement) (c : CheckedStatement) (b : Block) → joined_steps (cs ++ c ∷ []) b ≡ joined_steps cs (step (statement_of c) b)
steps_snoc [] c b = refl
steps_snoc (d ∷ cs) c b = ap (step (statement_of d)) (steps_snoc cs c b)

steps_joined : (cs : List CheckedStatement) → joined_steps cs done ≡ statements_of cs
steps_joined [] = refl
steps_joined (c ∷ cs) = ap (step (statement_of c)) (steps_joined cs)

pub steps_step : (cs : List CheckedStatement) (c : CheckedStatement) (ss : List CheckedStatement) (i : ℕ) (s : CheckedStatement) (whole : Block) → i < length ss → s ≡ get_or ss i s → joined_steps cs (statements_of (drop i ss)) ≡ whole → statement_of c ≡ statement_of s → joined_steps (cs ++ c ∷ []) (statements_of (drop (i + 1) ss)) ≡ whole
steps_step cs c ss i s whole h is so same =
    steps_snoc cs c (statements_of (drop (i + 1) ss)) ∙ ap (λ x. joined_steps cs (step x (statements_of (drop (i + 1) ss)))) same ∙ sym (ap (λ ys. joined_steps cs (statements_of ys)) (here ss i s h is)) ∙ so

pub steps_end : (cs ss : List CheckedStatement) (i : ℕ) (whole : Block) → length ss ≤ i → joined_steps cs (statements_of (drop i ss)) ≡ whole → statements_of cs ≡ whole
steps_end cs ss i whole h so = sym (steps_joined cs) ∙ sym (ap (λ ys. joined_steps cs (statements_of ys)) (drop_end ss i h)) ∙ so

use Rattle.std.proofs.Common.{◌≡◌, ◌<◌, ◌+◌, length, map, ap, ◌∙◌, arith, [], ◌∷◌, ◌++◌, length-append}
use Rattle.std.proofs.lemmas.Result.{err_from_is_err_and}
use Rattle.script_tokens.specs.declared.token.Mark.TheVariants as marks
use Rattle.script_tokens.specs.Views.{tokens_of}
use Rattle.script_syntax.specs.Reading.{after, parameter, some_parameters, kind_at}
use Rattle.script_syntax.specs.Views.{parameter_of}
use Rattle.script_syntax.proofs.Rows.{map_and}
use Rattle.script_syntax.proofs.Loops.{limited_ends, limited_steps, limited_fails, limited_full, parameters_begin, parameters_fail, and_also}
use Rattle.script_syntax.proofs.functions.some_parameters.Goals as goal

pub returns-in_err-first-clause-exact : goal.returns-in_err-first-clause-exact
returns-in_err-first-clause-exact c =
    let p = err_from_is_err_and c.from_residual.result c.from_residual.ensures.1 in
    rw (p.1, p.2) (parameters_fail (kind_at c.args.levels) (tokens_of c.args.tokens.now) c.in_err-first.field-0.0 c.in_err-first.ensures.exact)

pub loop-more-init : goal.loop-more-init
loop-more-init c =
    let e : c.push.new.self.items ≡ c.in_ok-first.first ∷ [] = c.in_ok-push.ensures.items ∙ ap (λ xs. xs ++ c.in_ok-first.first ∷ []) c.new-parameters.ensures.items in
    record { so_far = rw e (parameters_begin (kind_at c.args.levels) c.in_ok-first.first c.in_ok-first.rest.now c.args.tokens.now c.in_ok-first.ensures.exact); few = omega (arith, ap length e); shorter = c.in_ok-first.ensures.shorter }

-- with 16 parameters another one is refused
pub returns-then-len-eq-MOST_PARAMETERS-clause-exact : goal.returns-then-len-eq-MOST_PARAMETERS-clause-exact
returns-then-len-eq-MOST_PARAMETERS-clause-exact c =
    let full : length c.loop-more.parameters.items ≡ 16 = omega arith in
    limited_full (after marks.Comma) (parameter (kind_at c.args.levels)) and_also (length c.loop-more.parameters.items) 16 (map parameter_of c.loop-more.parameters.items) tt (tokens_of c.loop-more.rest.now) (tokens_of c.in-Some.more.now) (some_parameters (kind_at c.args.levels) (tokens_of c.args.tokens.now)) _ c.loop-more.invariant.so_far c.in-Some.ensures.front full

pub returns-in_err-item-clause-exact : goal.returns-in_err-item-clause-exact
returns-in_err-item-clause-exact c =
    let p = err_from_is_err_and c.from_residual-in_err-item.result c.from_residual-in_err-item.ensures.1 in
    rw (p.1, p.2) (limited_fails (after marks.Comma) (parameter (kind_at c.args.levels)) and_also (length c.loop-more.parameters.items) 16 (map parameter_of c.loop-more.parameters.items) tt (tokens_of c.loop-more.rest.now) (tokens_of c.in-Some.more.now) (some_parameters (kind_at c.args.levels) (tokens_of c.args.tokens.now)) c.in_err-item.field-0.0 c.loop-more.invariant.so_far c.in-Some.ensures.front c.in_err-item.ensures.exact)

pub loop-more-preserved : goal.loop-more-preserved
loop-more-preserved c =
    let less : length c.loop-more.parameters.items < 16 = omega (arith, c.loop-more.invariant.few) in
    let longer : length c.push-in-Some.new.self.items ≡ length c.loop-more.parameters.items + 1 = ap length c.in_ok-push-2.ensures.items ∙ length-append c.loop-more.parameters.items (c.in_ok-item.item ∷ []) in
    record {
      so_far = rw (longer, c.in_ok-push-2.ensures.items, map_and parameter_of c.loop-more.parameters.items c.in_ok-item.item) (limited_steps (after marks.Comma) (parameter (kind_at c.args.levels)) and_also (length c.loop-more.parameters.items) 16 (map parameter_of c.loop-more.parameters.items) tt (parameter_of c.in_ok-item.item) (tokens_of c.loop-more.rest.now) (tokens_of c.in-Some.more.now) (tokens_of c.in_ok-item.after.now) (some_parameters (kind_at c.args.levels) (tokens_of c.args.tokens.now)) c.loop-more.invariant.so_far c.in-Some.ensures.front c.in_ok-item.ensures.exact less);
      few = omega (arith, longer, less);
      shorter = omega (arith, c.loop-more.invariant.shorter, c.in-Some.ensures.shorter, c.in_ok-item.ensures.shorter);
    }

pub returns-clause-exact : goal.returns-clause-exact
returns-clause-exact c =
    limited_ends (after marks.Comma) (parameter (kind_at c.args.levels)) and_also (length c.loop-more.parameters.items) 16 (map parameter_of c.loop-more.parameters.items) (tokens_of c.loop-more.rest.now) (some_parameters (kind_at c.args.levels) (tokens_of c.args.tokens.now)) c.loop-more.invariant.so_far c.in_default.ensures.front

use Rattle.std.proofs.Common.{◌<◌, length, ap, arith}
use Rattle.std.proofs.lemmas.Result.{err_from_is_err_and}
use Rattle.script_tokens.specs.declared.token.Mark.TheVariants as marks
use Rattle.script_tokens.specs.Views.{tokens_of}
use Rattle.script_syntax.specs.Reading.{unless, statement_at, statements}
use Rattle.script_syntax.specs.Views.{statement_of, statements_of}
use Rattle.script_syntax.proofs.Rows.{statements_and}
use Rattle.script_syntax.proofs.Loops.{chain_ends, chain_steps, chain_fails, statements_begin, and_later}
use Rattle.script_syntax.proofs.statements.+statements.Goals as goal

pub statements-loop-more-init : goal.statements-loop-more-init
statements-loop-more-init t c =
    record { so_far = rw (c.no_items-statements.ensures.none, c.no_items-statements.ensures.all) (statements_begin (statement_at c.args.levels) c.args.tokens.now); no_longer = omega (arith, ap length c.no_items-statements.ensures.all) }

pub statements-returns-in_err-item-clause-exact : goal.statements-returns-in_err-item-clause-exact
statements-returns-in_err-item-clause-exact t c =
    let p = err_from_is_err_and c.from_residual.result c.from_residual.ensures.1 in
    rw (p.1, p.2) (chain_fails (unless marks.CloseBrace) (statement_at c.args.levels) and_later (statements_of c.loop-more.statements.items) tt c.loop-more.rest.now (tokens_of c.in-Some.more.now) (statements (statement_at c.args.levels) (tokens_of c.args.tokens.now)) c.in_err-item.field-0.0 c.loop-more.invariant.so_far c.in-Some.ensures.front c.in_err-item.ensures.exact)

pub statements-loop-more-preserved : goal.statements-loop-more-preserved
statements-loop-more-preserved t c =
    let fewer : length c.in_ok-item.after.now < length c.loop-more.rest.now = omega (arith, ap length c.in-Some.ensures.same, c.in_ok-item.ensures.shorter) in
    record {
      so_far = rw (c.in_ok-push.ensures.items, statements_and c.loop-more.statements.items c.in_ok-item.item) (chain_steps (unless marks.CloseBrace) (statement_at c.args.levels) and_later (statements_of c.loop-more.statements.items) tt (statement_of c.in_ok-item.item) c.loop-more.rest.now (tokens_of c.in-Some.more.now) c.in_ok-item.after.now (statements (statement_at c.args.levels) (tokens_of c.args.tokens.now)) c.loop-more.invariant.so_far c.in-Some.ensures.front c.in_ok-item.ensures.exact fewer);
      no_longer = omega (arith, c.loop-more.invariant.no_longer, fewer);
    }

pub statements-returns-clause-exact : goal.statements-returns-clause-exact
statements-returns-clause-exact t c =
    chain_ends (unless marks.CloseBrace) (statement_at c.args.levels) and_later (statements_of c.loop-more.statements.items) c.loop-more.rest.now (statements (statement_at c.args.levels) (tokens_of c.args.tokens.now)) c.loop-more.invariant.so_far c.in_default.ensures.front

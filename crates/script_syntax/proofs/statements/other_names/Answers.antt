use Rattle.std.proofs.Common.{◌≡◌, ◌<◌, ◌+◌, length, map, ap, ◌∙◌, arith, [], ◌∷◌, length-append}
use Rattle.std.proofs.lemmas.Result.{err_from_is_err_and}
use Rattle.script_tokens.specs.declared.token.Mark.TheVariants as marks
use Rattle.script_tokens.specs.Views.{tokens_of}
use Rattle.script_syntax.specs.Reading.{after, named, other_names}
use Rattle.script_syntax.specs.Views.{name_of}
use Rattle.script_syntax.proofs.Rows.{map_and}
use Rattle.script_syntax.proofs.Loops.{limited_ends, limited_steps, limited_fails, limited_full, names_begin, and_also}
use Rattle.script_syntax.proofs.statements.other_names.Goals as goal

pub loop-more-init : goal.loop-more-init
loop-more-init c =
    record {
      so_far = rw (c.no_items-others.ensures.none, c.no_items-others.ensures.all) (names_begin c.args.tokens.now);
      few = rw c.no_items-others.ensures.none (omega arith);
      no_longer = omega (arith, ap length c.no_items-others.ensures.all);
    }

-- with 3 further names another one is refused
pub returns-then-len-eq-MOST_OTHERS-clause-exact : goal.returns-then-len-eq-MOST_OTHERS-clause-exact
returns-then-len-eq-MOST_OTHERS-clause-exact c =
    let full : length c.loop-more.others.items ≡ 3 = omega arith in
    limited_full (after marks.Comma) named and_also (length c.loop-more.others.items) 3 (map name_of c.loop-more.others.items) tt (tokens_of c.loop-more.rest.now) (tokens_of c.in-Some.more.now) (other_names (tokens_of c.args.tokens.now)) _ c.loop-more.invariant.so_far c.in-Some.ensures.front full

pub returns-in_err-item-clause-exact : goal.returns-in_err-item-clause-exact
returns-in_err-item-clause-exact c =
    let p = err_from_is_err_and c.from_residual.result c.from_residual.ensures.1 in
    rw (p.1, p.2) (limited_fails (after marks.Comma) named and_also (length c.loop-more.others.items) 3 (map name_of c.loop-more.others.items) tt (tokens_of c.loop-more.rest.now) (tokens_of c.in-Some.more.now) (other_names (tokens_of c.args.tokens.now)) c.in_err-item.field-0.0 c.loop-more.invariant.so_far c.in-Some.ensures.front c.in_err-item.ensures.exact)

pub loop-more-preserved : goal.loop-more-preserved
loop-more-preserved c =
    let less : length c.loop-more.others.items < 3 = omega (arith, c.loop-more.invariant.few) in
    let longer : length c.push.new.self.items ≡ length c.loop-more.others.items + 1 = ap length c.in_ok-push.ensures.items ∙ length-append c.loop-more.others.items (c.in_ok-item.item ∷ []) in
    record {
      so_far = rw (longer, c.in_ok-push.ensures.items, map_and name_of c.loop-more.others.items c.in_ok-item.item) (limited_steps (after marks.Comma) named and_also (length c.loop-more.others.items) 3 (map name_of c.loop-more.others.items) tt (name_of c.in_ok-item.item) (tokens_of c.loop-more.rest.now) (tokens_of c.in-Some.more.now) (tokens_of c.in_ok-item.after.now) (other_names (tokens_of c.args.tokens.now)) c.loop-more.invariant.so_far c.in-Some.ensures.front c.in_ok-item.ensures.exact less);
      few = omega (arith, longer, less);
      no_longer = omega (arith, c.loop-more.invariant.no_longer, c.in-Some.ensures.shorter, c.in_ok-item.ensures.shorter);
    }

pub returns-clause-exact : goal.returns-clause-exact
returns-clause-exact c =
    limited_ends (after marks.Comma) named and_also (length c.loop-more.others.items) 3 (map name_of c.loop-more.others.items) (tokens_of c.loop-more.rest.now) (other_names (tokens_of c.args.tokens.now)) c.loop-more.invariant.so_far c.in_default.ensures.front

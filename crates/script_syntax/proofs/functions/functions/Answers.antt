use Rattle.std.proofs.Common.{◌≡◌, ◌<◌, ◌+◌, length, ap, ◌∙◌, arith, [], ◌∷◌, length-append}
use Rattle.std.proofs.lemmas.Result.{err_from_is_err_and}
use Rattle.script_tokens.specs.Views.{tokens_of}
use Rattle.script_syntax.specs.Reading.{unless_end, function}
use Rattle.script_syntax.specs.Views.{function_of, program_of}
use Rattle.script_syntax.proofs.Rows.{map_and}
use Rattle.script_syntax.proofs.Loops.{limited_ends, limited_steps, limited_fails, limited_full, functions_begin, and_also, all_functions, program_is, program_fails}
use Rattle.script_syntax.proofs.functions.functions.Goals as goal

pub loop-more-init : goal.loop-more-init
loop-more-init c =
    record { so_far = rw (c.no_items-functions.ensures.none, c.no_items-functions.ensures.all) (functions_begin c.args.tokens.now); few = rw c.no_items-functions.ensures.none (omega arith) }

-- with 64 functions another one is refused
pub returns-then-len-eq-MOST_FUNCTIONS : goal.returns-then-len-eq-MOST_FUNCTIONS
returns-then-len-eq-MOST_FUNCTIONS c =
    let full : length c.loop-more.functions.items ≡ 64 = omega arith in
    program_fails (tokens_of c.args.tokens.now) _ (limited_full unless_end function and_also (length c.loop-more.functions.items) 64 (program_of c.loop-more.functions.items) tt (tokens_of c.loop-more.rest.now) (tokens_of c.in-Some.more.now) (all_functions (tokens_of c.args.tokens.now)) _ c.loop-more.invariant.so_far c.in-Some.ensures.front full)

pub returns-in_err-item : goal.returns-in_err-item
returns-in_err-item c =
    let p = err_from_is_err_and c.from_residual.result c.from_residual.ensures.1 in
    rw (p.1, p.2) (program_fails (tokens_of c.args.tokens.now) c.in_err-item.field-0.0 (limited_fails unless_end function and_also (length c.loop-more.functions.items) 64 (program_of c.loop-more.functions.items) tt (tokens_of c.loop-more.rest.now) (tokens_of c.in-Some.more.now) (all_functions (tokens_of c.args.tokens.now)) c.in_err-item.field-0.0 c.loop-more.invariant.so_far c.in-Some.ensures.front c.in_err-item.ensures.exact))

pub loop-more-preserved : goal.loop-more-preserved
loop-more-preserved c =
    let less : length c.loop-more.functions.items < 64 = omega (arith, c.loop-more.invariant.few) in
    let longer : length c.push.new.self.items ≡ length c.loop-more.functions.items + 1 = ap length c.in_ok-push.ensures.items ∙ length-append c.loop-more.functions.items (c.in_ok-item.item ∷ []) in
    record {
      so_far = rw (longer, c.in_ok-push.ensures.items, map_and function_of c.loop-more.functions.items c.in_ok-item.item) (limited_steps unless_end function and_also (length c.loop-more.functions.items) 64 (program_of c.loop-more.functions.items) tt (function_of c.in_ok-item.item) (tokens_of c.loop-more.rest.now) (tokens_of c.in-Some.more.now) (tokens_of c.in_ok-item.after.now) (all_functions (tokens_of c.args.tokens.now)) c.loop-more.invariant.so_far c.in-Some.ensures.front c.in_ok-item.ensures.exact less);
      few = omega (arith, longer, less);
    }

pub returns : goal.returns
returns c =
    program_is (tokens_of c.args.tokens.now) (program_of c.loop-more.functions.items) (tokens_of c.loop-more.rest.now) (limited_ends unless_end function and_also (length c.loop-more.functions.items) 64 (program_of c.loop-more.functions.items) (tokens_of c.loop-more.rest.now) (all_functions (tokens_of c.args.tokens.now)) c.loop-more.invariant.so_far c.in_default.ensures.front)

use Rattle.std.proofs.Common.{◌<◌, arith, length, rules}
use Rattle.script_tokens.specs.Lexing.{listed}
use Rattle.script_tokens.proofs.Spans.{rest_within, after_within, read_more, read_shorter, stopped}
use Rattle.script_tokens.proofs.reader.lexed.Goals as goal

pub overflow_sub-start : goal.overflow_sub-start
overflow_sub-start c = rest_within c.args.text.now c.loop-rest.rest.now c.loop-rest.tokens.items c.loop-rest.invariant

pub bad_span-requires-clause-fits : goal.bad_span-requires-clause-fits
bad_span-requires-clause-fits c = omega (arith, c.requires, rest_within c.args.text.now c.loop-rest.rest.now c.loop-rest.tokens.items c.loop-rest.invariant)

pub returns-in_default-clause-refused : goal.returns-in_default-clause-refused
returns-in_default-clause-refused c =
    let some : 0 < length c.loop-rest.rest.now = search (rules, c.loop-rest-test.ensures, c.loop-rest-test.true) in
    stopped c.args.text.now c.loop-rest.rest.now c.loop-rest.tokens.items c.bad_span.result c.loop-rest.invariant c.in_default.ensures some c.bad_span.ensures.begins c.bad_span.ensures.stops

pub overflow_sub-end : goal.overflow_sub-end
overflow_sub-end c = omega (arith, rest_within c.args.text.now c.loop-rest.rest.now c.loop-rest.tokens.items c.loop-rest.invariant, after_within c.loop-rest.rest.now (listed c.in-Some.token) c.in-Some.after.now c.in-Some.ensures)

pub loop-rest-smaller : goal.loop-rest-smaller
loop-rest-smaller c = read_shorter c.loop-rest.rest.now (listed c.in-Some.token) c.in-Some.after.now c.in-Some.ensures

pub loop-rest-preserved : goal.loop-rest-preserved
loop-rest-preserved c =
    rw c.in_ok-keep.ensures (read_more c.args.text.now c.loop-rest.rest.now c.in-Some.after.now c.loop-rest.tokens.items c.in-Some.token c.loop-rest.invariant c.in-Some.ensures)

use Rattle.std.proofs.Common.{arith, length, ap, rules}
use Rattle.std.specs.Prelude.{IfErr}
use Rattle.script_tokens.specs.Bytes.{is_ascii}
use Rattle.script_tokens.specs.Refusals.{IsRefusal}
use Rattle.script_tokens.specs.Views.{tokens_of}
use Rattle.script_tokens.proofs.Runs.{run_short}
use Rattle.script_tokens.proofs.Readings.{ascii_read, ascii_placed, beyond, refused_read, one_list}
use Rattle.script_tokens.proofs.reader.tokens_in.Goals as goal

pub lexed-requires : goal.lexed-requires
lexed-requires c = omega (arith, c.if-text-gt-LONGEST.false, run_short is_ascii c.args.text.now, ap length c.ascii_front-ascii.ensures)

pub returns-in_err-tokens-clause-read : goal.returns-in_err-tokens-clause-read
returns-in_err-tokens-clause-read c =
    let refused : IfErr c.from_residual.result (λ e. IsRefusal c.args.text.now e) = search rules in
    refused_read c.args.text.now c.from_residual.result c.from_residual.ensures.0 refused

pub returns-then-start-text-clause-read : goal.returns-then-start-text-clause-read
returns-then-start-text-clause-read c tokens h = absurd (beyond c.args.text.now c.ascii_front-ascii.result.now c.ascii_front-ascii.ensures c.if-start-text.true tokens h)

pub returns-clause-found : goal.returns-clause-found
returns-clause-found c =
    ascii_read c.args.text.now c.ascii_front-ascii.result.now c.ascii_front-ascii.ensures c.if-text-gt-LONGEST.false c.if-start-text.false (tokens_of c.in_ok-tokens.tokens.items) c.in_ok-tokens.ensures.found

pub returns-clause-placed : goal.returns-clause-placed
returns-clause-placed c = ascii_placed c.args.text.now c.ascii_front-ascii.result.now c.ascii_front-ascii.ensures c.if-start-text.false c.in_ok-tokens.tokens.items c.in_ok-tokens.ensures.placed

pub returns-clause-read : goal.returns-clause-read
returns-clause-read c tokens h =
    one_list c.args.text.now (tokens_of c.in_ok-tokens.tokens.items) tokens
    (ascii_read c.args.text.now c.ascii_front-ascii.result.now c.ascii_front-ascii.ensures c.if-text-gt-LONGEST.false c.if-start-text.false (tokens_of c.in_ok-tokens.tokens.items) c.in_ok-tokens.ensures.found) h

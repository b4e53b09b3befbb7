use Rattle.std.proofs.lemmas.Result.{err_from_is_err_and}
use Rattle.script_tokens.specs.Views.{tokens_of}
use Rattle.script_syntax.proofs.Parses.{text_found, text_only, text_refused}
use Rattle.script_syntax.proofs.parser.parse.Goals as goal

pub returns-clause-found : goal.returns-clause-found
returns-clause-found c =
    text_found c.args.text.now (tokens_of c.in_ok-tokens.tokens.items) c.program.result c.in_ok-tokens.ensures.found (rw c.deref.ensures.value at c.program.ensures.found)

pub returns-clause-read : goal.returns-clause-read
returns-clause-read c =
    text_only c.args.text.now (tokens_of c.in_ok-tokens.tokens.items) c.program.result c.in_ok-tokens.ensures.read (rw c.deref.ensures.value at c.program.ensures.read)

pub returns-clause-refused : goal.returns-clause-refused
returns-clause-refused c =
    text_refused c.args.text.now (tokens_of c.in_ok-tokens.tokens.items) c.program.result c.in_ok-tokens.ensures.found (rw c.deref.ensures.value at c.program.ensures.refused)

pub returns-in_err-tokens-clause-read : goal.returns-in_err-tokens-clause-read
returns-in_err-tokens-clause-read c q h =
    let p = err_from_is_err_and c.from_residual.result c.from_residual.ensures.1 in
    rw (p.1, p.2) (c.in_err-tokens.ensures.read h.0 h.1)

use Rattle.script_tokens.specs.Views.{tokens_of}
use Rattle.script_syntax.specs.Views.{program_of}
use Rattle.script_syntax.proofs.Programs.{program_found}
use Rattle.script_syntax.proofs.Parses.{read_only, refused_only, refused_for}
use Rattle.script_syntax.proofs.parser.program.Goals as goal

pub returns-in-Ok-clause-found : goal.returns-in-Ok-clause-found
returns-in-Ok-clause-found c = program_found (tokens_of c.args.tokens.now) (program_of c.in-Ok.functions.items) c.in-Ok.ensures

pub returns-in-Ok-clause-read : goal.returns-in-Ok-clause-read
returns-in-Ok-clause-read c = read_only (tokens_of c.args.tokens.now) (program_of c.in-Ok.functions.items) c.in-Ok.ensures

pub returns-in-Err-clause-read : goal.returns-in-Err-clause-read
returns-in-Err-clause-read c = rw c.error_of.ensures (refused_only (tokens_of c.args.tokens.now) c.in-Err.refusal c.in-Err.ensures)

pub returns-in-Err-clause-refused : goal.returns-in-Err-clause-refused
returns-in-Err-clause-refused c = rw c.error_of.ensures (refused_for (tokens_of c.args.tokens.now) c.in-Err.refusal c.in-Err.ensures)

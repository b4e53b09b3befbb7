use Rattle.script_syntax.specs.Views.{program_of}
use Rattle.script_commands.proofs.Refused.{refused_by_checker, refused_by_parser, refused_memory}
use Rattle.script_commands.proofs.script.placed_script.Goals as goal

pub returns-in-Err-clause-refused : goal.returns-in-Err-clause-refused
returns-in-Err-clause-refused c =
    refused_by_parser c.args.text.now c.in-Err.error _ c.in-Err.ensures.refused c.in-Err.ensures.read c.syntax_refusal.ensures

pub returns-in-Err-check-clause-refused : goal.returns-in-Err-check-clause-refused
returns-in-Err-check-clause-refused c =
    refused_by_checker c.args.text.now (program_of c.in-Ok.program.functions.items) c.in-Err-check.error _ c.in-Ok.ensures.found c.in-Ok.ensures.read
    c.in-Err-check.ensures.only c.check_refusal.ensures

pub returns-in-Err-new-clause-refused : goal.returns-in-Err-new-clause-refused
returns-in-Err-new-clause-refused c = refused_memory c.args.text.now

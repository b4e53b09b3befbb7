use Rattle.script_check.specs.Trees.{script_of}
use Rattle.raysim_commands.proofs.Migrated.{explains_no_lines, explains_no_script}
use Rattle.raysim_commands.proofs.migrate_command.read_inputs.Goals as goal

pub returns-in-Err-clause-refused : goal.returns-in-Err-clause-refused
returns-in-Err-clause-refused g c = λ size writes. explains_no_script size _ _ _ _ writes c.in-Err.refusal (c.in-Err.ensures.refused writes)

pub returns-in-Err-read_lines-clause-refused : goal.returns-in-Err-read_lines-clause-refused
returns-in-Err-read_lines-clause-refused g c =
    λ size writes. explains_no_lines c.one_bad_line.ensures size _ _ (script_of c.in-Ok.script) _ _ writes c.in-Err-read_lines.refusal c.in-Ok.ensures.found
    c.in-Err-read_lines.ensures.refused

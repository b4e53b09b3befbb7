use Rattle.script_check.specs.Trees.{script_of}
use Rattle.raysim_commands.proofs.Explained.{explains_no_plan, explains_script}
use Rattle.raysim_commands.proofs.thread_inputs.read_inputs.Goals as goal

pub returns-in-Err-clause-refused : goal.returns-in-Err-clause-refused
returns-in-Err-clause-refused g c = explains_script _ _ _ _ c.in-Err.refusal (c.in-Err.ensures.refused (0, 0))

pub returns-in-Err-read_plan-clause-refused : goal.returns-in-Err-read_plan-clause-refused
returns-in-Err-read_plan-clause-refused g c =
    explains_no_plan _ _ _ _ (script_of c.in-Ok.script) c.in-Err-read_plan.refusal c.in-Ok.ensures.found c.in-Err-read_plan.ensures.refused

use Rattle.std.proofs.Common.{subst}
use Rattle.script_check.specs.Trees.{script_of}
use Rattle.script_commands.specs.Scripts.{IsRefusalOf, IsScript}
use Rattle.script_commands.proofs.Refused.{explains_read}
use Rattle.run_commands.proofs.Simulated.{explains_script}
use Rattle.run_commands.proofs.replay_inputs.read_replay_inputs.Goals as goal

pub returns-in-Err-clause-refused : goal.returns-in-Err-clause-refused
returns-in-Err-clause-refused g c = λ size writes. explains_script size _ _ _ _ writes c.in-Err.refusal (c.in-Err.ensures.refused writes)

pub returns-in-Err-compiled_script-clause-refused : goal.returns-in-Err-compiled_script-clause-refused
returns-in-Err-compiled_script-clause-refused g c =
    let refusal = c.in-Err-compiled_script.refusal in
    let is = subst (λ t. IsRefusalOf t refusal) c.as_slice.ensures.value c.in-Err-compiled_script.ensures.refused in
    λ size writes. explains_script size _ _ _ _ writes refusal (explains_read _ c.in-Ok.text.items _ writes refusal c.in-Ok.ensures.ok is)

pub returns-in-Ok-read_events-clause-script : goal.returns-in-Ok-read_events-clause-script
returns-in-Ok-read_events-clause-script g c =
    subst (λ t. IsScript t (script_of c.in-Ok-compiled_script.script)) c.as_slice.ensures.value c.in-Ok-compiled_script.ensures.found

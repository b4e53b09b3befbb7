use Rattle.std.proofs.Common.{subst}
use Rattle.script_check.specs.Trees.{script_of}
use Rattle.script_commands.specs.Scripts.{IsAllowed, IsRefusalOf, IsScript}
use Rattle.script_commands.proofs.Reading.{of_known}
use Rattle.script_commands.proofs.Refused.{explains_read}
use Rattle.script_commands.proofs.script.read_checked.Goals as goal

pub returns-in-Ok-checked_script-clause-found : goal.returns-in-Ok-checked_script-clause-found
returns-in-Ok-checked_script-clause-found g c =
    let script = script_of c.in-Ok-checked_script.script in
    let is = subst (λ t. IsScript t script) c.as_slice.ensures.value c.in-Ok-checked_script.ensures.found in
    of_known (λ t. IsScript t script) _ c.in-Ok.text.items c.in-Ok.ensures.ok is

pub returns-in-Ok-checked_script-clause-allowed : goal.returns-in-Ok-checked_script-clause-allowed
returns-in-Ok-checked_script-clause-allowed g c =
    let script = script_of c.in-Ok-checked_script.script in
    let is = subst (λ t. IsScript t script) c.as_slice.ensures.value c.in-Ok-checked_script.ensures.found in
    of_known IsAllowed _ c.in-Ok.text.items c.in-Ok.ensures.ok (script, is)

pub returns-clause-refused : goal.returns-clause-refused
returns-clause-refused g c =
    let refusal = c.in-Err-checked_script.refusal in
    let is = subst (λ t. IsRefusalOf t refusal) c.as_slice.ensures.value c.in-Err-checked_script.ensures.refused in
    λ writes. explains_read _ c.in-Ok.text.items _ writes refusal c.in-Ok.ensures.ok is

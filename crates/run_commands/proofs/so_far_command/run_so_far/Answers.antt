use Rattle.std.proofs.Common.{◌≡◌, string_bytes}
use Rattle.std.proofs.lemmas.Result.{IfErr-weaker, IfOk-weaker}
use Rattle.script_check.specs.Trees.{script_of}
use Rattle.raysim_streams.specs.declared.CommandRefusal.TheVariants.{NoMemory}
use Rattle.script_commands.specs.Scripts.{ExplainsText}
use Rattle.script_commands.proofs.Refused.{explains_text}
use Rattle.run_commands.specs.SoFar.{IsRunSoFar, IsRunToldOf}
use Rattle.run_commands.proofs.UpToThere.{run_told_of, text_without_memory}
use Rattle.run_commands.proofs.so_far_command.run_so_far.Goals as goal

pub returns-in-Err-clause-refused : goal.returns-in-Err-clause-refused
returns-in-Err-clause-refused c = explains_text c.args.text.now c.in-Err.refusal c.in-Err.ensures.refused

pub returns-clause-told : goal.returns-clause-told
returns-clause-told c =
    let script = script_of c.in-Ok.script in
    IfOk-weaker c.run_script.result (λ s. IsRunSoFar script c.args.cluster c.args.form (string_bytes s.text) s.status)
    (λ s. IsRunToldOf c.args.cluster c.args.form c.args.text.now (string_bytes s.text) s.status)
    (λ s told. run_told_of script c.args.cluster c.args.form c.args.text.now (string_bytes s.text) s.status c.in-Ok.ensures.found told)
    c.run_script.ensures.told

pub returns-clause-refused : goal.returns-clause-refused
returns-clause-refused c =
    IfErr-weaker c.run_script.result (λ r. r ≡ NoMemory) (ExplainsText c.args.text.now) (text_without_memory c.args.text.now) c.run_script.ensures.only

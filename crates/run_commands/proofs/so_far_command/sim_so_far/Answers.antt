use Rattle.std.proofs.Common.{◌≡◌, string_bytes}
use Rattle.std.proofs.lemmas.Result.{IfErr-weaker, IfOk-weaker}
use Rattle.script_check.specs.Trees.{script_of}
use Rattle.raysim_streams.specs.declared.CommandRefusal.TheVariants.{NoMemory}
use Rattle.run_commands.specs.SoFar.{ExplainsTexts, IsReplaySoFar, IsReplayToldOf}
use Rattle.run_commands.proofs.UpToThere.{replay_told_of, texts_without_events, texts_without_memory, texts_without_script}
use Rattle.run_commands.proofs.so_far_command.sim_so_far.Goals as goal

pub returns-in-Err-clause-refused : goal.returns-in-Err-clause-refused
returns-in-Err-clause-refused c = texts_without_script c.args.text.now c.args.events.now c.in-Err.refusal c.in-Err.ensures.refused

pub returns-in-Err-event_lines-clause-refused : goal.returns-in-Err-event_lines-clause-refused
returns-in-Err-event_lines-clause-refused c =
    texts_without_events c.args.text.now c.args.events.now c.in-Err-event_lines.refusal (script_of c.in-Ok.script, c.in-Ok.ensures.found)
    c.in-Err-event_lines.ensures.refused

pub returns-clause-told : goal.returns-clause-told
returns-clause-told c =
    let script = script_of c.in-Ok.script in
    let says = c.in-Ok-event_lines.found.says in
    let numbers = c.in-Ok-event_lines.found.numbers in
    IfOk-weaker c.sim_script.result (λ s. IsReplaySoFar script c.args.cluster c.args.form says numbers (string_bytes s.text) s.status)
    (λ s. IsReplayToldOf c.args.cluster c.args.form c.args.text.now c.args.events.now (string_bytes s.text) s.status)
    (λ s told. replay_told_of script c.args.cluster c.args.form says numbers c.args.text.now c.args.events.now (string_bytes s.text) s.status
    c.in-Ok.ensures.found c.in-Ok-event_lines.ensures.found told)
    c.sim_script.ensures.told

pub returns-clause-refused : goal.returns-clause-refused
returns-clause-refused c =
    IfErr-weaker c.sim_script.result (λ r. r ≡ NoMemory) (ExplainsTexts c.args.text.now c.args.events.now)
    (texts_without_memory c.args.text.now c.args.events.now) c.sim_script.ensures.only

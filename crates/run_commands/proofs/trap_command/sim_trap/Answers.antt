use Rattle.std.proofs.Common.{◌≡◌, string_bytes}
use Rattle.std.proofs.lemmas.Result.{IfErr-weaker, IfOk-weaker}
use Rattle.script_check.specs.Trees.{script_of}
use Rattle.raysim_streams.specs.declared.CommandRefusal.TheVariants.{NoMemory}
use Rattle.script_commands.proofs.Refused.{placed_allowed}
use Rattle.run_commands.specs.SoFar.{ExplainsTexts}
use Rattle.run_commands.specs.TrapReports.{IsReplayTrap, IsReplayTrapOf}
use Rattle.run_commands.proofs.UpToThere.{texts_without_events, texts_without_memory, texts_without_script}
use Rattle.run_commands.proofs.trap_command.sim_trap.Goals as goal

pub returns-in-Err-clause-refused : goal.returns-in-Err-clause-refused
returns-in-Err-clause-refused c = texts_without_script c.args.text.now c.args.events.now c.in-Err.refusal c.in-Err.ensures.refused

pub returns-in-Err-event_lines-clause-refused : goal.returns-in-Err-event_lines-clause-refused
returns-in-Err-event_lines-clause-refused c =
    let placed = c.in-Ok.placed in
    let is = placed_allowed c.args.text.now (script_of placed.script) placed.places.items c.in-Ok.ensures.found in
    texts_without_events c.args.text.now c.args.events.now c.in-Err-event_lines.refusal is c.in-Err-event_lines.ensures.refused

pub returns-clause-told : goal.returns-clause-told
returns-clause-told c =
    let script = script_of c.in-Ok.placed.script in
    let places = c.in-Ok.placed.places.items in
    let says = c.in-Ok-event_lines.found.says in
    let numbers = c.in-Ok-event_lines.found.numbers in
    IfOk-weaker c.sim_script.result (λ s. IsReplayTrap script c.args.cluster c.args.text.now places says c.args.asked (string_bytes s))
    (λ s. IsReplayTrapOf c.args.cluster c.args.text.now c.args.events.now c.args.asked (string_bytes s))
    (λ s told. (script, places, says, numbers, c.in-Ok.ensures.found, c.in-Ok-event_lines.ensures.found, told)) c.sim_script.ensures.told

pub returns-clause-refused : goal.returns-clause-refused
returns-clause-refused c =
    IfErr-weaker c.sim_script.result (λ r. r ≡ NoMemory) (ExplainsTexts c.args.text.now c.args.events.now)
    (texts_without_memory c.args.text.now c.args.events.now) c.sim_script.ensures.only

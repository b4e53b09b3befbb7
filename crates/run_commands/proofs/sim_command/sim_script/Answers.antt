use Rattle.std.proofs.Common.{◌≡◌, string_bytes}
use Rattle.std.proofs.lemmas.Result.{IfErr-weaker, IfOk-weaker}
use Rattle.script_check.specs.Trees.{script_of}
use Rattle.raysim_streams.specs.declared.CommandRefusal.TheVariants.{NoMemory}
use Rattle.run_commands.specs.SimReports.{IsSimReportOf, IsStopOf}
use Rattle.run_commands.specs.SoFar.{IsToldOfReplay}
use Rattle.run_commands.proofs.Simulated.{without_memory}
use Rattle.run_commands.proofs.sim_command.sim_script.Goals as goal

pub returns-clause-reported : goal.returns-clause-reported
returns-clause-reported g c =
    let says = c.args.events.now.says in
    let numbers = c.args.events.now.numbers in
    IfOk-weaker c.told_replay-told.result (λ s. IsToldOfReplay c.args.form numbers c.in-Ok.replay (string_bytes s.text) s.status)
    (λ s. IsSimReportOf (script_of c.args.script.now) c.args.cluster c.args.form says numbers (string_bytes s.text) s.status)
    (λ s told. (c.in-Ok.replay, c.in-Ok.ensures.replayed, told.0, told.1)) c.told_replay-told.ensures.told

pub returns-clause-stopped : goal.returns-clause-stopped
returns-clause-stopped g c =
    let script = script_of c.args.script.now in
    let says = c.args.events.now.says in
    let numbers = c.args.events.now.numbers in
    IfErr-weaker c.told_replay-told.result (λ r. r ≡ NoMemory) (IsStopOf script c.args.cluster says numbers)
    (without_memory script c.args.cluster says numbers) c.told_replay-told.ensures.only

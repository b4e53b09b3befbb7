use Rattle.std.proofs.Common.{◌≡◌}
use Rattle.std.proofs.lemmas.Result.{IfErr-weaker, IfOk-weaker}
use Rattle.script_check.specs.Trees.{script_of}
use Rattle.raysim_streams.specs.declared.CommandRefusal.TheVariants.{NoMemory}
use Rattle.run_commands.specs.Pages.{IsPageIn, IsPageOf}
use Rattle.run_commands.specs.SimReports.{IsStopOf}
use Rattle.run_commands.proofs.Paging.{page_so}
use Rattle.run_commands.proofs.Simulated.{without_memory}
use Rattle.run_commands.proofs.page_command.page_script.Goals as goal

pub returns-clause-made : goal.returns-clause-made
returns-clause-made g c =
    let script = script_of c.args.script.now in
    let says = c.args.events.now.says in
    let text = c.args.text.now in
    IfOk-weaker c.page_now-made.result (λ m. IsPageIn c.args.cluster c.args.contents c.in-Ok.replay text m.page.items m.status)
    (λ m. IsPageOf script c.args.cluster c.args.contents says text m.page.items m.status)
    (λ m made. page_so script c.args.cluster c.args.contents says c.in-Ok.replay text m.page.items m.status c.in-Ok.ensures.replayed made)
    c.page_now-made.ensures.made

pub returns-clause-stopped : goal.returns-clause-stopped
returns-clause-stopped g c =
    let script = script_of c.args.script.now in
    let says = c.args.events.now.says in
    let numbers = c.args.events.now.numbers in
    IfErr-weaker c.page_now-made.result (λ r. r ≡ NoMemory) (IsStopOf script c.args.cluster says numbers)
    (without_memory script c.args.cluster says numbers) c.page_now-made.ensures.only

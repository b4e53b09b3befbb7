use Rattle.std.proofs.Common.{◌≡◌, ◌∙◌, string_bytes}
use Rattle.std.proofs.lemmas.Result.{IfErr-weaker, IfOk-weaker}
use Rattle.script_check.specs.Trees.{script_of}
use Rattle.fault_runs.specs.of_protocol_board.Views.{course_of}
use Rattle.raysim_streams.specs.declared.CommandRefusal.TheVariants.{NoMemory}
use Rattle.run_commands.specs.RunReports.{IsReportOf, IsRunStop}
use Rattle.run_commands.specs.SoFar.{IsToldOf}
use Rattle.run_commands.proofs.Driven.{begins_so, run_ends, run_stops, run_without_memory}
use Rattle.run_commands.proofs.run_command.run_script.Goals as goal

pub returns-in-Err-drive-clause-stopped : goal.returns-in-Err-drive-clause-stopped
returns-in-Err-drive-clause-stopped g c =
    run_stops (script_of c.args.script.now) g.S.ScriptName.script c.args.cluster (course_of c.new-board.result c.no_numbers-sent.result)
    (course_of c.drive.new.board c.drive.new.sent) c.in-Err-drive.refusal c.run_refusal.result c.requires
    (begins_so c.new-board.result c.no_numbers-sent.result c.args.cluster (c.new-board.ensures ∙ c.in-Ok.ensures) c.no_numbers-sent.ensures)
    c.in-Err-drive.ensures.stops c.run_refusal.ensures

pub returns-clause-reported : goal.returns-clause-reported
returns-clause-reported g c =
    let script = script_of c.args.script.now in
    let form = c.args.form in
    let after = course_of c.drive.new.board c.drive.new.sent in
    IfOk-weaker c.told-told.result (λ s. IsToldOf form after.run after.sent c.new-nowhere.result (string_bytes s.text) s.status)
    (λ s. IsReportOf script c.args.cluster form (string_bytes s.text) s.status)
    (λ s told. run_ends script g.S.ScriptName.script c.args.cluster form (course_of c.new-board.result c.no_numbers-sent.result) after c.new-nowhere.result
    (string_bytes s.text) s.status c.requires
    (begins_so c.new-board.result c.no_numbers-sent.result c.args.cluster (c.new-board.ensures ∙ c.in-Ok.ensures) c.no_numbers-sent.ensures)
    c.in_default.ensures.ends c.told-told.ensures.meant c.new-nowhere.ensures told) c.told-told.ensures.told

pub returns-clause-stopped : goal.returns-clause-stopped
returns-clause-stopped g c =
    let script = script_of c.args.script.now in
    IfErr-weaker c.told-told.result (λ r. r ≡ NoMemory) (IsRunStop script c.args.cluster) (run_without_memory script c.args.cluster) c.told-told.ensures.only

use Rattle.std.proofs.Common.{◌∙◌, string_bytes}
use Rattle.std.proofs.lemmas.Result.{IfOk-weaker}
use Rattle.script_check.specs.Trees.{script_of}
use Rattle.fault_runs.specs.of_protocol_board.Views.{course_of}
use Rattle.trap_text.specs.Text.{IsTrapTold}
use Rattle.run_commands.specs.TrapReports.{IsRunTrap}
use Rattle.run_commands.proofs.Driven.{begins_so}
use Rattle.run_commands.proofs.Trapping.{run_trap_so}
use Rattle.run_commands.proofs.trap_command.run_script.Goals as goal

pub returns-clause-told : goal.returns-clause-told
returns-clause-told g c =
    let script = script_of c.args.placed.now.script in
    let text = c.args.text.now in
    let places = c.args.placed.now.places.items in
    let after = course_of c.drive_so_far.new.board c.drive_so_far.new.sent in
    IfOk-weaker c.told_of-told.result (λ s. IsTrapTold script text places c.log.result.now c.args.asked (string_bytes s))
    (λ s. IsRunTrap script c.args.cluster text places c.args.asked (string_bytes s))
    (λ s told. run_trap_so script g.S.ScriptName.script c.args.cluster text places c.args.asked (course_of c.new-board.result c.new-sent.result) after
    c.log.result.now (string_bytes s) c.requires
    (begins_so c.new-board.result c.new-sent.result c.args.cluster (c.new-board.ensures ∙ c.in-Ok.ensures) c.new-sent.ensures)
    c.in_default.ensures.driven c.log.ensures.meant c.log.ensures.log told) c.told_of-told.ensures.told

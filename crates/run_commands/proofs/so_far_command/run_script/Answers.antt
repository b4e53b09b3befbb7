use Rattle.std.proofs.Common.{◌∙◌, string_bytes}
use Rattle.std.proofs.lemmas.Result.{IfOk-weaker}
use Rattle.script_check.specs.Trees.{script_of}
use Rattle.fault_runs.specs.of_protocol_board.Views.{course_of}
use Rattle.run_commands.specs.SoFar.{IsRunSoFar, IsToldOf}
use Rattle.run_commands.proofs.Driven.{begins_so}
use Rattle.run_commands.proofs.UpToThere.{run_told_so}
use Rattle.run_commands.proofs.so_far_command.run_script.Goals as goal

pub returns-clause-told : goal.returns-clause-told
returns-clause-told g c =
    let script = script_of c.args.script.now in
    let form = c.args.form in
    let after = course_of c.drive_so_far.new.board c.drive_so_far.new.sent in
    IfOk-weaker c.told-told.result (λ s. IsToldOf form after.run after.sent c.new-nowhere.result (string_bytes s.text) s.status)
    (λ s. IsRunSoFar script c.args.cluster form (string_bytes s.text) s.status)
    (λ s told. run_told_so script g.S.ScriptName.script c.args.cluster form (course_of c.new-board.result c.new-sent.result) after c.new-nowhere.result
    (string_bytes s.text) s.status c.requires
    (begins_so c.new-board.result c.new-sent.result c.args.cluster (c.new-board.ensures ∙ c.in-Ok.ensures) c.new-sent.ensures)
    c.in_default.ensures.driven c.told-told.ensures.meant c.new-nowhere.ensures told) c.told-told.ensures.told

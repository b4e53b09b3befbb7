use Rattle.std.proofs.Common.{◌∙◌, ap, subst}
use Rattle.std.specs.Prelude.{IfOk, string_bytes}
use Rattle.run_commands.specs.SimReports.{lines_in_file}
use Rattle.run_commands.specs.SoFar.{IsToldOf}
use Rattle.run_commands.proofs.telling.told_replay.Goals as goal

pub returns-in-Ok-clause-told : goal.returns-in-Ok-clause-told
returns-in-Ok-clause-told g c =
    let form = c.args.form in
    let play = c.args.replay.now in
    let lines = c.in-Ok.ensures ∙ ap (lines_in_file c.args.numbers.now) c.lines.ensures in
    let of_run = subst (λ r. IfOk c.told.result (λ s. IsToldOf form r c.sent.result.now c.in-Ok.lines (string_bytes s.text) s.status)) c.board.ensures
    c.told.ensures.told in
    let of_sent = subst (λ l. IfOk c.told.result (λ s. IsToldOf form play.run l c.in-Ok.lines (string_bytes s.text) s.status)) c.sent.ensures of_run in
    subst (λ l. IfOk c.told.result (λ s. IsToldOf form play.run play.sent l (string_bytes s.text) s.status)) lines of_sent

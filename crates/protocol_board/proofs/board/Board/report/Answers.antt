use Rattle.std.proofs.Common.{◌≡◌, List, IfOk, subst, string_bytes}
use Rattle.event_log.specs.Entries.{Entry}
use Rattle.report_text.specs.Report.{report_text}
use Rattle.protocol_board.proofs.board.Board.report.Goals as goal

pub returns-clause-text : goal.returns-clause-text
returns-clause-text g c =
    let P : List Entry → Type 0 = λ log. IfOk c.report_text.result (λ text. string_bytes text ≡ report_text log) in
    subst P c.log.ensures.log c.report_text.ensures

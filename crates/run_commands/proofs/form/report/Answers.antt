use Rattle.std.proofs.Common.{◌∙◌, subst}
use Rattle.std.specs.Prelude.{IfOk, string_bytes}
use Rattle.run_commands.specs.Reports.{IsReportIn}
use Rattle.run_commands.proofs.Accounts.{account_so}
use Rattle.run_commands.proofs.form.report.Goals as goal

pub returns-clause-text : goal.returns-clause-text
returns-clause-text g c =
    let form = c.args.form in
    let same = account_so _ _ _ _ _ _ _ c.args.board.now c.log-log.ensures.log (c.as_slice-messages.ensures ∙ c.messages.ensures) c.whole-whole.ensures
    c.as_slice.ensures c.as_slice-2.ensures in
    subst (λ a. IfOk c.report_of.result (λ t. IsReportIn form a (string_bytes t))) same c.report_of.ensures

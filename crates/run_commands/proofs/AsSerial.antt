-- Reports begin as what `serial` writes of the script.
use Rattle.std.proofs.Common.{◌≡◌, ◌++◌, ◌∙◌, ℕ, List, inl, inr, ap, sym, subst}
use Rattle.std.proofs.lemmas.List.{append_assoc}
use Rattle.meaning.specs.Syntax.{Script}
use Rattle.script_check.specs.Scripts.{IsWellTyped}
use Rattle.script_check.proofs.Safe.{well_typed}
use Rattle.books.specs.Lines.{book_lines}
use Rattle.event_log.specs.Entries.{Entry}
use Rattle.event_log.specs.Serial.{MainBegins}
use Rattle.report_text.specs.of_report_lines.Main.{status_of}
use Rattle.report_text.specs.Report.{report_text}
use Rattle.fault_runs.specs.of_protocol_board.Cores.{IsSoundLog, RunState}
use Rattle.fault_runs.specs.of_protocol_board.Reports.{json_text}
use Rattle.report_laws.specs.Begins.{BeginsAsSerial, BeginsWith}
use Rattle.report_laws.specs.Json.{SaysAsSerial}
use Rattle.report_laws.proofs.Reports.{report_begins}
use Rattle.summary_text.specs.Text.{summary_text}
use Rattle.run_commands.specs.declared.form.Form.{Form}
use Rattle.run_commands.specs.declared.form.Form.TheVariants as forms
use Rattle.script_commands.specs.Scripts.{IsScript}
use Rattle.run_commands.specs.Reports.{Account, IsReportIn, IsAsSerialIn, account_of}

-- a text begins so with more behind it
begins_longer : (text more first : List ℕ) → BeginsWith text first → BeginsWith (text ++ more) first
begins_longer text more first (rest, is) = (rest ++ more, ap (λ t. t ++ more) is ∙ append_assoc first rest more)

longer : (script : Script) (log : List Entry) (text more : List ℕ) (status : ℕ) → BeginsAsSerial script log text status →
    BeginsAsSerial script log (text ++ more) status
longer script log text more status (inl (begins, same)) = inl (begins_longer text more _ begins, same)
longer script log text more status (inr (part, same)) = inr (
  record {
    prints = part.prints;
    fault = part.fault;
    said = begins_longer text more _ part.said;
    first = part.first;
    cause = part.cause;
  },
  same,
)

-- what is written of a sound log begins so
written_so : (form : Form) (script : Script) (a : Account) (report : List ℕ) (status : ℕ) → IsWellTyped script → MainBegins script a.log →
    IsReportIn form a report → status ≡ status_of a.log → IsAsSerialIn form script a.log report status
written_so forms.Text script a report status typed begins told ends =
    subst (λ t. BeginsAsSerial script a.log t status) (sym told)
    (subst (λ n. BeginsAsSerial script a.log (report_text a.log) n) (sym ends) (report_begins script a.log typed begins).text)
written_so forms.Json script a report status typed begins told ends =
    subst (λ t. SaysAsSerial script a.log t status) (sym told)
    (subst (λ n. SaysAsSerial script a.log (json_text a.log) n) (sym ends) (report_begins script a.log typed begins).json)
written_so forms.TextWithBooks script a report status typed begins told ends =
    subst (λ t. BeginsAsSerial script a.log t status) (sym told)
    (subst (λ n. BeginsAsSerial script a.log (report_text a.log ++ book_lines a.log) n) (sym ends)
    (longer script a.log (report_text a.log) (book_lines a.log) _ (report_begins script a.log typed begins).text))
written_so (forms.Log how) script a report status typed begins told ends = tt
written_so (forms.LogWithMessages how) script a report status typed begins told ends = tt
written_so (forms.Why how o) script a report status typed begins told ends = tt
written_so (forms.WhyMain how) script a report status typed begins told ends = tt
written_so (forms.Timeline how) script a report status typed begins told ends = tt
written_so (forms.Lineage how) script a report status typed begins told ends = tt
written_so forms.TextWithSummary script a report status typed begins told ends =
    subst (λ t. BeginsAsSerial script a.log t status) (sym told)
    (subst (λ n. BeginsAsSerial script a.log (report_text a.log ++ summary_text a.log a.messages) n) (sym ends)
    (longer script a.log (report_text a.log) (summary_text a.log a.messages) _ (report_begins script a.log typed begins).text))
written_so forms.State script a report status typed begins told ends = tt
written_so (forms.WhyWorker how w) script a report status typed begins told ends = tt
written_so (forms.WhyNode how n) script a report status typed begins told ends = tt
written_so forms.Limit script a report status typed begins told ends = tt

-- and so where the script was read from a text
pub as_serial : (text : List ℕ) (form : Form) (script : Script) (c : RunState) (sent lines report : List ℕ) (status : ℕ) → IsScript text script →
    IsSoundLog script c → IsReportIn form (account_of c sent lines) report → status ≡ status_of c.log → IsAsSerialIn form script c.log report status
as_serial text form script c sent lines report status is sound told ends =
    written_so form script (account_of c sent lines) report status (well_typed is.0 script is.2) sound.begins told ends

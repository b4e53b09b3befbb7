-- What is written of a run, in each form.
use Rattle.std.specs.Prelude.{◌≡◌, ℕ, List, ◌++◌, codes}
use Rattle.meaning.specs.Syntax.{Script}
use Rattle.serde_json.specs.Written.{compact_text}
use Rattle.event_log.specs.Entries.{Entry}
use Rattle.report_text.specs.Report.{report_text}
use Rattle.books.specs.Lines.{book_lines}
use Rattle.report_laws.specs.Begins.{BeginsAsSerial}
use Rattle.report_laws.specs.Json.{SaysAsSerial}
use Rattle.log_words.specs.declared.contents.Contents.{Contents}
use Rattle.log_text.specs.Text.{log_text}
use Rattle.main_text.specs.Text.{main_text}
use Rattle.why_text.specs.Text.{why_text}
use Rattle.limit_text.specs.Text.{limit_text}
use Rattle.lineage_text.specs.Text.{lineage_text}
use Rattle.message_text.specs.Text.{log_with_messages}
use Rattle.endpoint_text.specs.Text.{node_account, worker_account}
use Rattle.state_text.specs.Text.{event_count, state_text}
use Rattle.summary_text.specs.Text.{summary_text}
use Rattle.timeline.specs.Text.{timeline_data}
use Rattle.protocol.specs.Messages.{Envelope}
use Rattle.protocol.specs.Cluster.{ClusterState}
use Rattle.fault_runs.specs.of_protocol_board.Cores.{RunState}
use Rattle.fault_runs.specs.of_protocol_board.Reports.{json_text}
use Rattle.run_commands.specs.declared.form.Form.{Form}
use Rattle.run_commands.specs.declared.form.Form.TheVariants as forms

-- what is told of a run: its log, the messages that were sent, its tables with these, behind each event how many messages had been sent, and the lines
-- of the event file from which the events came, as far as they came from one
pub record Account : Type 0 where
  pub log : List Entry
  pub messages : List Envelope
  pub whole : ClusterState
  pub sent : List ℕ
  pub lines : List ℕ

abbrev pub account_of : RunState → List ℕ → List ℕ → Account
account_of c sent lines = record { log = c.log; messages = c.whole.network; whole = c.whole; sent = sent; lines = lines }

-- the timeline of a log with its messages, on one line
abbrev pub timeline_text : Contents → List Entry → List Envelope → List ℕ → List ℕ
timeline_text how log messages sent = compact_text (timeline_data how log messages sent) ++ codes "\n"

-- a timeline is made of entries as the code has them, and the log is what they stand for
abbrev pub IsTimelineOf : Contents → Account → List ℕ → Type 0
IsTimelineOf how a text = (entries : List Entry) × (entries ≡ a.log) × (text ≡ timeline_text how entries a.messages a.sent)

abbrev pub IsReportIn : Form → Account → List ℕ → Type 0
IsReportIn forms.Text a text = text ≡ report_text a.log
IsReportIn forms.Json a text = text ≡ json_text a.log
IsReportIn forms.TextWithBooks a text = text ≡ report_text a.log ++ book_lines a.log
IsReportIn (forms.Log how) a text = text ≡ log_text how a.log
IsReportIn (forms.LogWithMessages how) a text = text ≡ log_with_messages how a.log a.messages a.sent
IsReportIn (forms.Why how o) a text = text ≡ why_text how a.log a.lines o
IsReportIn (forms.WhyMain how) a text = text ≡ main_text how a.log a.lines a.whole
IsReportIn (forms.Timeline how) a text = IsTimelineOf how a text
IsReportIn (forms.Lineage how) a text = text ≡ lineage_text how a.log
IsReportIn forms.TextWithSummary a text = text ≡ report_text a.log ++ summary_text a.log a.messages
IsReportIn forms.State a text = text ≡ state_text a.log a.whole (event_count a.log)
IsReportIn (forms.WhyWorker how w) a text = text ≡ worker_account how a.log a.lines a.whole w
IsReportIn (forms.WhyNode how n) a text = text ≡ node_account how a.log a.lines a.whole n
IsReportIn forms.Limit a text = text ≡ limit_text a.log a.lines

-- as text, also with books or a summary behind it, or as JSON it says of main what `serial` writes of the script: all of it, or a first part
abbrev pub IsAsSerialIn : Form → Script → List Entry → List ℕ → ℕ → Type 0
IsAsSerialIn forms.Text script log text status = BeginsAsSerial script log text status
IsAsSerialIn forms.Json script log text status = SaysAsSerial script log text status
IsAsSerialIn forms.TextWithBooks script log text status = BeginsAsSerial script log text status
IsAsSerialIn forms.TextWithSummary script log text status = BeginsAsSerial script log text status
IsAsSerialIn _ script log text status = Unit {0}

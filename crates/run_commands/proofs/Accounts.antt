-- What is told of a run is told of its log, its messages and its tables.
use Rattle.std.proofs.Common.{◌≡◌, ◌∙◌, ℕ, List, ap}
use Rattle.event_log.specs.Entries.{Entry}
use Rattle.protocol.specs.Messages.{Envelope}
use Rattle.protocol.specs.Cluster.{ClusterState}
use Rattle.fault_runs.specs.of_protocol_board.Cores.{RunState}
use Rattle.run_commands.specs.Reports.{Account, account_of}

abbrev accounts : List Entry → List Envelope → ClusterState → List ℕ → List ℕ → Account
accounts log messages whole sent lines = record { log = log; messages = messages; whole = whole; sent = sent; lines = lines }

-- the parts are those of the run
pub account_so : (log : List Entry) (messages : List Envelope) (whole : ClusterState) (sent sent' lines lines' : List ℕ) (run : RunState) → log ≡ run.log →
    messages ≡ run.whole.network → whole ≡ run.whole → sent ≡ sent' → lines ≡ lines' →
    ◌≡◌ {A = Account} (record { log = log; messages = messages; whole = whole; sent = sent; lines = lines }) (account_of run sent' lines')
account_so log messages whole sent sent' lines lines' run l m w s n =
    ap (λ x. accounts x messages whole sent lines) l ∙ ap (λ x. accounts run.log x whole sent lines) m
    ∙ ap (λ x. accounts run.log run.whole.network x sent lines) w ∙ ap (λ x. accounts run.log run.whole.network run.whole x lines) s
    ∙ ap (λ x. accounts run.log run.whole.network run.whole sent' x) n

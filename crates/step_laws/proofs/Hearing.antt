-- What comes of a message that reaches a worker may open no more workers than what it began with.
use Rattle.std.proofs.Common.{None, Option, Some, ap, refl, true, ℕ, ◌≡◌}
use Rattle.std.specs.List.{list_any}
use Rattle.std.specs.Prelude.{not, ◌&&◌}
use Rattle.protocol.specs.of_event_log.Entries.{Attempt}
use Rattle.protocol.specs.of_event_log.Words.{same_attempt}
use Rattle.meaning.specs.Values.{Birth}
use Rattle.protocol.specs.Deliveries.{reached, reached_from_node, reached_from_worker}
use Rattle.protocol.specs.Messages.{At, Back, CopyOf, Elsewhere, Failed, Finished, FinishedAck, Give, Gone, Hold, HoldAck, Message, Missing, Endpoint, Push}
use Rattle.protocol.specs.Messages.{TheNode, TheWorker, Unhold, Where}
use Rattle.protocol.specs.Runs.{begins_run, finished_ack_reached, hears_by, is_free, push_reached}
use Rattle.protocol.specs.Steps.{WorkerContext, says_to_node}
use Rattle.protocol.specs.Tables.{Execution}
use Rattle.step_laws.specs.Spending.{Spends, waits_of}
use Rattle.step_laws.proofs.Spends.{spends_if, spends_less, spends_none, spends_same, spends_then, with_run_spends}
use Rattle.step_laws.proofs.Asks.{hold_ack_spends, hold_spends, unhold_spends}
use Rattle.step_laws.proofs.Contents.{at_spends, copy_spends, failed_spends, finished_spends, gone_spends, missing_spends, where_spends}
use Rattle.step_laws.proofs.Notices.{elsewhere_spends, given_spends}

pub push_spends : (h : WorkerContext) (a : Attempt) (spec : Birth) → Spends h (push_reached h a spec)
push_spends h a spec =
    spends_if (is_free h.worker.run && not (list_any (λ b. same_attempt b a) h.worker.began)) (spends_less {g = begins_run h a spec} refl refl) spends_none

hears_by_spends : (h : WorkerContext) (a : Attempt) (r : Option Execution) → h.worker.run ≡ r → Spends h (hears_by h a r)
hears_by_spends h a None e = spends_none
hears_by_spends h a (Some run) e =
    spends_if (same_attempt run.attempt a && run.is_over) (with_run_spends h (record run { is_acknowledged = true }) (ap waits_of e)) spends_none

pub finished_ack_spends : (h : WorkerContext) (a : Attempt) → Spends h (finished_ack_reached h a)
finished_ack_spends h a =
    let g : WorkerContext = hears_by h a h.worker.run in
    spends_then {g = g} (hears_by_spends h a h.worker.run refl) (spends_same {g = says_to_node g h.worker.node (Back a)} refl refl)

from_worker_spends : (h : WorkerContext) (w : ℕ) (m : Message) → Spends h (reached_from_worker h w m)
from_worker_spends h w (Push a spec) = push_spends h a spec
from_worker_spends h w (Finished a n rs) = finished_spends h w a n rs
from_worker_spends h w (FinishedAck a) = finished_ack_spends h a
from_worker_spends h w (Failed a f) = failed_spends h w a f
from_worker_spends h w (Where o) = where_spends h w o
from_worker_spends h w (At o number ns kept) = at_spends h o number ns kept
from_worker_spends h w (Gone o f) = gone_spends h o f
from_worker_spends h w (Missing o number n) = missing_spends h (TheWorker w) o number n
from_worker_spends h w (Hold e o) = hold_spends h w e o
from_worker_spends h w (HoldAck e o) = hold_ack_spends h e o
from_worker_spends h w (Unhold e o why) = unhold_spends h e o why
from_worker_spends h w m = spends_none

from_node_spends : (h : WorkerContext) (n : ℕ) (m : Message) → Spends h (reached_from_node h n m)
from_node_spends h n (Give a t w) = given_spends h n a t w
from_node_spends h n (Elsewhere a t m) = elsewhere_spends h a t m
from_node_spends h n (CopyOf o number c) = copy_spends h o number c
from_node_spends h n (Missing o number m) = missing_spends h (TheNode n) o number m
from_node_spends h n m = spends_none

pub reached_spends : (h : WorkerContext) (from : Endpoint) (m : Message) → Spends h (reached h from m)
reached_spends h (TheWorker w) m = from_worker_spends h w m
reached_spends h (TheNode n) m = from_node_spends h n m

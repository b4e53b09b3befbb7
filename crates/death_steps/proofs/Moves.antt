-- An ask that stands at the dead node goes on.
use Rattle.std.proofs.Common.{◌≡◌, ◌==◌, ℕ, Bool, Some, true, if◌then◌else◌, ap, sym, ◌∙◌}
use Rattle.protocol.specs.Numbered.{item_at}
use Rattle.protocol.specs.Tables.{AskedAt, ByTask, ObjectSource, Object, OwnTask, Progress, task_in, task_of}
use Rattle.protocol.specs.Steps.{WorkerContext, own_id, own_object}
use Rattle.protocol.specs.Asking.{asks_next}
use Rattle.protocol.specs.Notices.{moves_ask, moves_ask_at}
use Rattle.std.specs.Prelude.{Option}

pub moved : (h : WorkerContext) (m k : ℕ) (x : Object) (task : OwnTask) (t n : ℕ)
    → item_at h.worker.objects k ≡ Some x → x.source ≡ ByTask task → task.progress ≡ AskedAt t n → true ≡ (n == m)
    → moves_ask h m k (task_of (own_object h k)) ≡ asks_next h (own_id h k) task t m
moved h m k x task t n found made stands there =
    ap (λ (o : Option Object). moves_ask h m k (task_of o)) found
    ∙ ap (λ (by : ObjectSource). moves_ask h m k (task_in by)) made
    ∙ ap (λ (p : Progress). moves_ask_at h m (own_id h k) task p) stands
    ∙ ap (λ (b : Bool). if b then asks_next h (own_id h k) task t m else h) (sym there)

-- What says something and no more leaves the worker as it was.
use Rattle.std.proofs.Common.{◌≡◌, ℕ, zero, suc, ◌+◌, List, [], ◌∷◌, length, Some, None, Option, refl, ◌∙◌}
use Rattle.std.specs.Prelude.{Bool, true, false, if◌then◌else◌}
use Rattle.meaning.specs.Values.{Id}
use Rattle.step_laws.specs.of_protocol.Messages.{Hold}
use Rattle.step_laws.specs.of_protocol.Tables.{AskedAt, AtRest, HasEnded, HasFaulted, Holding, Out, OwnTask, Phase, Progress, Ready, Execution, RunsOn, Waits, Worker, task_of}
use Rattle.step_laws.specs.of_protocol.Steps.{WorkerContext, each_from, own_id, own_object, says}
use Rattle.step_laws.specs.of_protocol.Runs.{tells_stop}
use Rattle.step_laws.specs.of_protocol.Ticks.{asks_again, sends_holds, sends_task, sends_task_at, sends_tasks}

pub tells_stop-worker : (h : WorkerContext) (run : Execution) (phase : Phase) → (tells_stop h run phase).worker ≡ h.worker
tells_stop-worker h run (HasEnded c) = refl
tells_stop-worker h run (HasFaulted f) = refl
tells_stop-worker h run Ready = refl
tells_stop-worker h run (Out j) = refl
tells_stop-worker h run (Waits y f) = refl

if_worker : (b : Bool) (x y : WorkerContext) (u : Worker) → x.worker ≡ u → y.worker ≡ u → (if b then x else y).worker ≡ u
if_worker true x y u p q = p
if_worker false x y u p q = q

pub asks_again-worker : (h : WorkerContext) (phase : Phase) → (asks_again h phase).worker ≡ h.worker
asks_again-worker h (Waits y None) = if_worker _ _ _ h.worker refl refl
asks_again-worker h (Waits y (Some f)) = refl
asks_again-worker h Ready = refl
asks_again-worker h (Out j) = refl
asks_again-worker h (HasEnded d) = refl
asks_again-worker h (HasFaulted g) = refl

pub sends_holds-worker : (h : WorkerContext) (ks : List Holding) → (sends_holds h ks).worker ≡ h.worker
sends_holds-worker h [] = refl
sends_holds-worker h (k ∷ ks) = sends_holds-worker (says h k.object.owner (Hold k.holder k.object)) ks

sends_task_at-worker : (h : WorkerContext) (o : Id) (task : OwnTask) (q : Progress) → (sends_task_at h o task q).worker ≡ h.worker
sends_task_at-worker h o task AtRest = refl
sends_task_at-worker h o task (AskedAt t n) = refl
sends_task_at-worker h o task (RunsOn w n) = refl

sends_task-worker : (h : WorkerContext) (k : ℕ) (task : Option OwnTask) → (sends_task h k task).worker ≡ h.worker
sends_task-worker h k None = refl
sends_task-worker h k (Some task) = sends_task_at-worker h (own_id h k) task task.progress

each_from-worker : (f : WorkerContext → ℕ → WorkerContext) → ((g : WorkerContext) (k : ℕ) → (f g k).worker ≡ g.worker) → (h : WorkerContext) (k n : ℕ) → (each_from f h k n).worker ≡ h.worker
each_from-worker f each h k zero = refl
each_from-worker f each h k (suc n) = each_from-worker f each (f h k) (k + 1) n ∙ each h k

pub sends_tasks-worker : (h : WorkerContext) → (sends_tasks h).worker ≡ h.worker
sends_tasks-worker h = each_from-worker (λ g k. sends_task g k (task_of (own_object g k))) (λ g k. sends_task-worker g k (task_of (own_object g k))) h 1
    (length h.worker.objects)

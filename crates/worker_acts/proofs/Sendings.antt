-- What only sends messages leaves the worker as it was.
use Rattle.std.proofs.Common.{◌≡◌, ℕ, zero, suc, ◌+◌, Bool, true, false, if◌then◌else◌, List, [], ◌∷◌, length, Option, Some, None, refl, ◌∙◌}
use Rattle.meaning.specs.Values.{Id}
use Rattle.protocol.specs.Messages.{Hold, Where}
use Rattle.protocol.specs.Tables.{AskedAt, AtRest, Fetching, HasEnded, HasFaulted, Holding, Out, OwnTask, Phase, Progress, Ready, RunsOn, Waits, task_of}
use Rattle.protocol.specs.Steps.{WorkerContext, each_from, is_own, own_id, own_object, says}
use Rattle.protocol.specs.Ticks.{asks_again, asks_location_again, sends_holds, sends_task, sends_task_at, sends_tasks}

task_at_keeps : (h : WorkerContext) (o : Id) (task : OwnTask) (p : Progress) → (sends_task_at h o task p).worker ≡ h.worker
task_at_keeps h o task AtRest = refl
task_at_keeps h o task (AskedAt t n) = refl
task_at_keeps h o task (RunsOn w n) = refl

task_keeps : (h : WorkerContext) (k : ℕ) (task : Option OwnTask) → (sends_task h k task).worker ≡ h.worker
task_keeps h k None = refl
task_keeps h k (Some task) = task_at_keeps h (own_id h k) task task.progress

tasks_keep_from : (h : WorkerContext) (k n : ℕ) → (each_from (λ g i. sends_task g i (task_of (own_object g i))) h k n).worker ≡ h.worker
tasks_keep_from h k zero = refl
tasks_keep_from h k (suc n) = tasks_keep_from (sends_task h k (task_of (own_object h k))) (k + 1) n ∙ task_keeps h k (task_of (own_object h k))

pub tasks_keep : (h : WorkerContext) → (sends_tasks h).worker ≡ h.worker
tasks_keep h = tasks_keep_from h 1 (length h.worker.objects)

place_keeps_if : (h : WorkerContext) (y : Id) (b : Bool) → (if b then h else says h y.owner (Where y)).worker ≡ h.worker
place_keeps_if h y true = refl
place_keeps_if h y false = refl

place_keeps : (h : WorkerContext) (y : Id) (f : Option Fetching) → (asks_location_again h y f).worker ≡ h.worker
place_keeps h y None = place_keeps_if h y (is_own h y)
place_keeps h y (Some f) = refl

pub again_keeps : (h : WorkerContext) (p : Phase) → (asks_again h p).worker ≡ h.worker
again_keeps h Ready = refl
again_keeps h (Out j) = refl
again_keeps h (Waits y f) = place_keeps h y f
again_keeps h (HasEnded c) = refl
again_keeps h (HasFaulted f) = refl

pub holds_keep : (h : WorkerContext) (ks : List Holding) → (sends_holds h ks).worker ≡ h.worker
holds_keep h [] = refl
holds_keep h (k ∷ ks) = holds_keep (says h k.object.owner (Hold k.holder k.object)) ks

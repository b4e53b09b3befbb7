-- What is done with each object of a task.
use Rattle.std.proofs.Common.{◌≡◌, ℕ, ◌+◌, ◌-◌, true, if◌then◌else◌, List, Some, sym, ap, ◌∙◌, arith}
use Rattle.meaning.specs.Values.{Id, results_of}
use Rattle.event_log.specs.Entries.{Accepted, Attempt, Fault}
use Rattle.protocol.specs.Messages.{EndedResult}
use Rattle.protocol.specs.Tables.{OwnTask}
use Rattle.protocol.specs.Steps.{WorkerContext, each_from, each_result, logs, own_id, with_task_of}
use Rattle.protocol.specs.Asking.{answers_faulted, resolves_used, rests, uses_up}
use Rattle.protocol.specs.Locations.{answers_settled}
use Rattle.protocol.specs.Ends.{accepts, failed_by, fails, finished_by, hears_of_end, if_present, resolves_open, settles}
use Rattle.owner_steps.specs.Each.{each_own}

-- from the first object of the task to behind the last
pub each_of_task : (f : WorkerContext → Id → WorkerContext) (h : WorkerContext) (o : Id) (task : OwnTask) (end : ℕ) → end ≡ o.serial + results_of task.spec →
    each_own f h o.serial end ≡ each_result f h o task
each_of_task f h o task end e =
    let count : end - o.serial ≡ results_of task.spec = omega (arith, e) in ap (λ n. each_from (λ g k. f g (own_id g k)) h o.serial n) count

-- ---- no retries left

pub used_up : (h : WorkerContext) (o : Id) (task : OwnTask) (end : ℕ) → end ≡ o.serial + results_of task.spec →
    each_own answers_faulted (each_own resolves_used (with_task_of h o (rests task)) o.serial end) o.serial end ≡ uses_up h o task
used_up h o task end e =
    let resting : WorkerContext = with_task_of h o (rests task) in
    ap (λ g. each_own answers_faulted g o.serial end) (each_of_task resolves_used resting o task end e)
    ∙ each_of_task answers_faulted (each_result resolves_used resting o task) o task end e

-- ---- ends

pub accepted : (h : WorkerContext) (a : Attempt) (task : OwnTask) (n end : ℕ) (rs : List EndedResult) → end ≡ a.object.serial + results_of task.spec →
    logs (settles (with_task_of h a.object (rests task)) a.object a.number n (end - a.object.serial) rs) (Accepted a) ≡ accepts h a task n rs
accepted h a task n end rs e =
    let count : end - a.object.serial ≡ results_of task.spec = omega (arith, e) in
    ap (λ m. logs (settles (with_task_of h a.object (rests task)) a.object a.number n m rs) (Accepted a)) count

pub finished : (h : WorkerContext) (w : ℕ) (a : Attempt) (n end : ℕ) (rs : List EndedResult) (task : OwnTask) → end ≡ a.object.serial + results_of task.spec →
    if_present a task ≡ true →
    each_own answers_settled (hears_of_end (accepts h a task n rs) w a) a.object.serial end ≡ finished_by h w a n rs (Some task)
finished h w a n end rs task e present =
    let heard : WorkerContext = hears_of_end (accepts h a task n rs) w a in
    each_of_task answers_settled heard a.object task end e
    ∙ sym (ap (λ b. if b then each_result answers_settled heard a.object task else hears_of_end h w a) present)

pub failed : (h : WorkerContext) (w : ℕ) (a : Attempt) (f : Fault) (task : OwnTask) (end : ℕ) → end ≡ a.object.serial + results_of task.spec →
    if_present a task ≡ true →
    each_own answers_faulted (hears_of_end (each_own (resolves_open f) (with_task_of h a.object (rests task)) a.object.serial end) w a) a.object.serial end
    ≡ failed_by h w a f (Some task)
failed h w a f task end e present =
    let resting : WorkerContext = with_task_of h a.object (rests task) in
    let heard : WorkerContext = hears_of_end (fails h a task f) w a in
    ap (λ g. each_own answers_faulted (hears_of_end g w a) a.object.serial end) (each_of_task (resolves_open f) resting a.object task end e)
    ∙ each_of_task answers_faulted heard a.object task end e
    ∙ sym (ap (λ b. if b then each_result answers_faulted heard a.object task else hears_of_end h w a) present)

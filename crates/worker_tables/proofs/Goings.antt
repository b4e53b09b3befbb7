-- What goes with an object.
use Rattle.std.proofs.Common.{◌≡◌, Option, Some, sym, ap, ◌∙◌}
use Rattle.meaning.specs.Values.{results_of}
use Rattle.contexts.specs.of_protocol.Releases.{going_with}
use Rattle.contexts.specs.of_protocol.Tables.{ByTask, Beside, ObjectSource, Object, OwnTask, WasPut, task_in, task_of}

by_task : (m : ObjectSource) (task : OwnTask) → task_in m ≡ Some task → going_with m ≡ results_of task.spec
by_task WasPut task e = absurd cc
by_task (ByTask t) task e = let same : t ≡ task = cc in ap (λ u. results_of u.spec) same
by_task (Beside k) task e = absurd cc

-- with the first object of a task all of them go
pub goes_by_task : (o : Option Object) (x : Object) (task : OwnTask) → o ≡ Some x → task_of o ≡ Some task → going_with x.source ≡ results_of task.spec
goes_by_task o x task there e = by_task x.source task (sym (ap task_of there) ∙ e)

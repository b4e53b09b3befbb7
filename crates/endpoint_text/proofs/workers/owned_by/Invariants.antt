use Rattle.std.proofs.Common.{◌≡◌, take}
use Rattle.endpoint_text.specs.Workers.{owned_by}
use Rattle.endpoint_text.proofs.workers.owned_by.Given as goal

abbrev pub invariant-loop-entry : goal.invariant-loop-entry
invariant-loop-entry l = l.objects.items ≡ owned_by (take l.entry-index l.log) l.worker

use Rattle.std.proofs.Common.{◌≡◌, take}
use Rattle.endpoint_text.specs.Deaths.{ran_on}
use Rattle.endpoint_text.proofs.deaths.ran_on.Given as goal

abbrev pub invariant-loop-entry : goal.invariant-loop-entry
invariant-loop-entry l = l.runs.items ≡ ran_on (take l.entry-index l.log) l.worker

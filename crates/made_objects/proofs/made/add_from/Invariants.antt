use Rattle.std.proofs.Common.{◌≡◌, ◌++◌}
use Rattle.meaning.specs.Runs.{ids_from}
use Rattle.made_objects.proofs.made.add_from.Given as goal

abbrev pub invariant-loop-place : goal.invariant-loop-place
invariant-loop-place l = l.objects.items ≡ l.initial.objects.items ++ ids_from l.first l.place

use Rattle.std.proofs.Common.{◌≡◌, drop}
use Rattle.endpoint_text.specs.Nodes.{with_all}
use Rattle.endpoint_text.proofs.copies.with_all.Given as goal

-- adding those that are left to those so far ends as adding all
abbrev pub invariant-loop-object : goal.invariant-loop-object
invariant-loop-object l = with_all l.all.items (drop l.object-index l.others) ≡ with_all l.fn.objects.items l.others

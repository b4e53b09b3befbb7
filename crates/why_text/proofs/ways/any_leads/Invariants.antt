use Rattle.std.proofs.Common.{◌≡◌, drop}
use Rattle.std.specs.List.{list_any}
use Rattle.why_text.specs.Ways.{leads}
use Rattle.why_text.proofs.ways.any_leads.Given as goal

abbrev pub invariant-loop-object : goal.invariant-loop-object
invariant-loop-object l =
    list_any (leads l.cause l.found) l.objects ≡ list_any (leads l.cause l.found) (drop l.object-index l.objects)

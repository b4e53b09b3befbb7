use Rattle.std.proofs.Common.{◌≡◌, take}
use Rattle.std.specs.List.{filter}
use Rattle.why_text.specs.Holders.{is_kept}
use Rattle.why_text.proofs.holders.kept_among.Given as goal

abbrev pub invariant-loop-object : goal.invariant-loop-object
invariant-loop-object l = l.kept.items ≡ filter (is_kept l.before l.attempt) (take l.object-index l.objects)

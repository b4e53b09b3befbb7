use Rattle.std.proofs.Common.{◌≡◌, take}
use Rattle.std.specs.List.{filter}
use Rattle.why_text.specs.Results.{is_in_result}
use Rattle.why_text.proofs.holders.holders_among.Given as goal

abbrev pub invariant-loop-holder : goal.invariant-loop-holder
invariant-loop-holder l = l.holders.items ≡ filter (is_in_result l.object l.attempt l.results) (take l.holder-index l.objects)

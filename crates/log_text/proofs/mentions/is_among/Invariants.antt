use Rattle.std.proofs.Common.{◌≡◌, drop}
use Rattle.log_text.specs.Mentions.{is_among}
use Rattle.log_text.proofs.mentions.is_among.Given as goal

abbrev pub invariant-loop-id : goal.invariant-loop-id
invariant-loop-id l = is_among l.object l.ids ≡ is_among l.object (drop l.id-index l.ids)

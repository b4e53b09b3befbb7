use Rattle.std.proofs.Common.{◌≡◌, false, drop}
use Rattle.limit_text.specs.Text.{ends_at_limit}
use Rattle.limit_text.proofs.text.ends_at_limit.Given as goal

abbrev pub invariant-loop-entry : goal.invariant-loop-entry
invariant-loop-entry l = ends_at_limit l.limited (drop l.entry-index l.log) ≡ ends_at_limit false l.log

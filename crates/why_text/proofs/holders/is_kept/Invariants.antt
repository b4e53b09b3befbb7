use Rattle.std.proofs.Common.{◌≡◌, drop}
use Rattle.why_text.specs.Holders.{is_kept}
use Rattle.why_text.proofs.holders.is_kept.Given as goal

abbrev pub invariant-loop-entry : goal.invariant-loop-entry
invariant-loop-entry l = is_kept l.before l.attempt l.object ≡ is_kept (drop l.entry-index l.before) l.attempt l.object

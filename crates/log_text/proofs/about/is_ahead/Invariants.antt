use Rattle.std.proofs.Common.{◌≡◌, drop}
use Rattle.log_text.specs.About.{is_ahead, seen_of}
use Rattle.log_text.proofs.about.is_ahead.Given as goal

abbrev pub invariant-loop-entry : goal.invariant-loop-entry
invariant-loop-entry l = is_ahead (seen_of l.subject) l.rest ≡ is_ahead (seen_of l.subject) (drop l.entry-index l.rest)

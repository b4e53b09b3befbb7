use Rattle.std.proofs.Common.{◌≡◌, drop}
use Rattle.why_text.specs.Again.{is_accepted_in}
use Rattle.why_text.proofs.again.is_accepted_in.Given as goal

abbrev pub invariant-loop-entry : goal.invariant-loop-entry
invariant-loop-entry l = is_accepted_in l.log l.attempt ≡ is_accepted_in (drop l.entry-index l.log) l.attempt

use Rattle.std.proofs.Common.{◌≡◌, [], drop}
use Rattle.why_text.specs.Ways.{leading_from}
use Rattle.why_text.proofs.ways.leading.Given as goal

-- what is found in the rest of the log, with what was found so far, is what is found in all of it
abbrev pub invariant-loop-entry : goal.invariant-loop-entry
invariant-loop-entry l =
    leading_from l.cause l.found.items (drop l.entry-index l.log) ≡ leading_from l.cause [] l.log

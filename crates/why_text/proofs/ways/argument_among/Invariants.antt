use Rattle.std.proofs.Common.{◌≡◌, drop}
use Rattle.why_text.specs.Ways.{argument_among}
use Rattle.why_text.proofs.ways.argument_among.Given as goal

abbrev pub invariant-loop-entry : goal.invariant-loop-entry
invariant-loop-entry l =
    argument_among l.log l.cause l.task l.found ≡ argument_among (drop l.entry-index l.log) l.cause l.task l.found

use Rattle.std.proofs.Common.{◌≡◌, drop}
use Rattle.std.specs.List.{list_any}
use Rattle.why_text.specs.Holders.{is_release_of}
use Rattle.why_text.proofs.holders.is_released_in.Given as goal

abbrev pub invariant-loop-entry : goal.invariant-loop-entry
invariant-loop-entry l =
    list_any (is_release_of l.object) l.log ≡ list_any (is_release_of l.object) (drop l.entry-index l.log)

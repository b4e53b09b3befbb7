use Rattle.std.proofs.Common.{◌≡◌, drop}
use Rattle.std.specs.List.{list_any}
use Rattle.waits.specs.Tables.{is_ask_of}
use Rattle.waits.proofs.lookups.has_ask.Given as goal

abbrev pub invariant-loop-key : goal.invariant-loop-key
invariant-loop-key l =
    list_any (is_ask_of l.attempt l.number) l.queue ≡ list_any (is_ask_of l.attempt l.number) (drop l.key-index l.queue)

use Rattle.std.proofs.Common.{◌≡◌, take}
use Rattle.log_words.specs.of_event_log.Words.{opened}
use Rattle.log_text.proofs.runners.opened.Given as goal

abbrev pub invariant-loop-entry : goal.invariant-loop-entry
invariant-loop-entry l = l.nodes.items ≡ opened (take l.entry-index l.log)

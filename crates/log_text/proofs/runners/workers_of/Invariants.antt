use Rattle.std.proofs.Common.{◌≡◌, take}
use Rattle.log_words.specs.of_event_log.Words.{runs_of}
use Rattle.log_text.proofs.runners.workers_of.Given as goal

abbrev pub invariant-loop-entry : goal.invariant-loop-entry
invariant-loop-entry l = l.workers.items ≡ runs_of l.object (take l.entry-index l.log)

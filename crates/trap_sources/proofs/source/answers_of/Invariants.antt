use Rattle.std.proofs.Common.{◌≡◌, ◌++◌, drop, map}
use Rattle.values.specs.Values.{content_of}
use Rattle.event_log.specs.Words.{answers_of}
use Rattle.trap_sources.proofs.source.answers_of.Given as goal

abbrev pub invariant-loop-entry : goal.invariant-loop-entry
invariant-loop-entry l =
    map content_of l.answers.items ++ answers_of l.attempt (drop l.entry-index l.log) ≡ answers_of l.attempt l.log

use Rattle.std.proofs.Common.{◌≡◌, drop}
use Rattle.event_log.specs.Words.{births}
use Rattle.log_words.specs.Index.{IsIndexOf}
use Rattle.why_text.specs.Holders.{has}
use Rattle.why_text.proofs.holders.has.Given as goal

abbrev pub invariant-loop-entry : goal.invariant-loop-entry
invariant-loop-entry l =
    IsIndexOf l.index l.log →
    has (births l.log) l.before l.holder l.object ≡ has (births l.log) (drop l.entry-index l.before) l.holder l.object

-- What the answer to an event tells, beside the new whole.
use Rattle.std.specs.Prelude.{List, [], ◌∷◌}
use Rattle.event_log.specs.Entries.{Entry}
use Rattle.event_log.specs.Entries as log
use Rattle.protocol.specs.Answers.{Answer, Refuses, Takes}
use Rattle.event_answers.specs.declared.verdict.Verdict.{Verdict}
use Rattle.event_answers.specs.declared.verdict.Verdict.TheVariants.{Refused, Taken}

abbrev pub outcome_of : Answer → Verdict
outcome_of (Takes s) = Taken s.given
outcome_of (Refuses code) = Refused code

-- what comes of the event in the log, behind the event itself
abbrev pub come_of : Answer → List Entry
come_of (Takes s) = s.entries
come_of (Refuses code) = log.Refused code ∷ []

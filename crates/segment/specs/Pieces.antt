-- What was done on a job, as contracts see it.
use Rattle.evaluation.specs.declared.piece.Piece.{Piece}
use Rattle.held.specs.declared.outcomes.Outcomes.{Outcomes}
use Rattle.segment.specs.Jobs.{JobParts, Done}

-- a job with what was done on it
abbrev pub done_of : JobParts → Piece → Done
done_of j p = record { job = j; births = p.outcomes.births; prints = p.outcomes.prints; stop = p.outcomes.stop }

-- what was done
abbrev pub outcomes_in : Done → Outcomes
outcomes_in d = record { births = d.births; prints = d.prints; stop = d.stop }

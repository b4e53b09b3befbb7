use Rattle.event_log.proofs.Growing.{beginnings_are_legal}
use Rattle.event_log.proofs.law.beginnings_are_legal.Goals as goal

pub returns : goal.returns
returns c = beginnings_are_legal

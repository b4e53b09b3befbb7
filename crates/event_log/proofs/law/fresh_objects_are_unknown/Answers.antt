use Rattle.event_log.proofs.FreshLaws.{fresh_objects_are_unknown}
use Rattle.event_log.proofs.law.fresh_objects_are_unknown.Goals as goal

pub returns : goal.returns
returns c = fresh_objects_are_unknown

use Rattle.protocol_data.proofs.Noting.{unmarked, without_mark}
use Rattle.protocol_data.proofs.asks.known_place.Goals as goal

pub returns-then-not-may_be_marked-clause-none : goal.returns-then-not-may_be_marked-clause-none
returns-then-not-may_be_marked-clause-none c =
    unmarked _ _ _ c.requires.marked (without_mark _ _ _ _ _ c.object_of-object.ensures c.mark_of-mark.ensures c.may_be_marked.ensures c.if-not-may_be_marked.true)

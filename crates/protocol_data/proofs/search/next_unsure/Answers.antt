use Rattle.std.proofs.Common.{sym}
use Rattle.protocol_data.proofs.Searches.{passed}
use Rattle.protocol_data.proofs.search.next_unsure.Goals as goal

pub returns-then-is_same_bearer-clause-stay : goal.returns-then-is_same_bearer-clause-stay
returns-then-is_same_bearer-clause-stay c xs p =
    passed xs _ _ c.args.from _ _ _ _ p.marked p.kept (sym c.if-is_same_bearer.ensures) c.first_unsure.ensures.down c.first_unsure.ensures.sure

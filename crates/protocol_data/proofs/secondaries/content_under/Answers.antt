use Rattle.protocol_data.proofs.Recency.{lent}
use Rattle.protocol_data.proofs.secondaries.content_under.Goals as goal

pub returns : goal.returns
returns c = lent (record { object = c.args.object; number = c.args.number }) c.args.cache.now.entries c.peek.result c.peek.ensures

use Rattle.std.proofs.Common.{ap, ◌∙◌}
use Rattle.lru.specs.LruCache.{LruCache}
use Rattle.meaning.specs.Values.{Outcome}
use Rattle.protocol_data.specs.Recent.{copies_of}
use Rattle.protocol_data.specs.declared.secondaries.CopyKey.{CopyKey}
use Rattle.protocol_data.proofs.Recency.{brought_first}
use Rattle.protocol_data.proofs.secondaries.promote.Goals as goal

pub returns-clause-copies : goal.returns-clause-copies
returns-clause-copies c =
    ap (λ (d : LruCache CopyKey Outcome). copies_of d.entries) c.promote.ensures.entries
    ∙ brought_first (record { object = c.args.object; number = c.args.number }) c.args.cache.now c.len.ensures.valid

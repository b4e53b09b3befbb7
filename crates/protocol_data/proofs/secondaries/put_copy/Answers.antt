use Rattle.std.proofs.Common.{ap, ◌∙◌}
use Rattle.lru.specs.LruCache.{LruCache}
use Rattle.meaning.specs.Values.{Outcome}
use Rattle.protocol_data.specs.Recent.{copies_of}
use Rattle.protocol_data.specs.declared.secondaries.CopyKey.{CopyKey}
use Rattle.protocol_data.proofs.Recency.{put_first}
use Rattle.protocol_data.proofs.secondaries.put_copy.Goals as goal

pub returns-clause-ok : goal.returns-clause-ok
returns-clause-ok c =
    ap (λ (d : LruCache CopyKey Outcome). copies_of d.entries) c.in_ok-put_under.ensures.ok ∙ put_first c.args.cache.now c.args.copy c.requires c.len.ensures.valid

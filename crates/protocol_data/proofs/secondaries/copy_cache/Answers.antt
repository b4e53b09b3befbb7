use Rattle.std.proofs.Common.{ap, ◌∙◌, ◌++◌}
use Rattle.lru.specs.LruCache.{LruCache, put_entries}
use Rattle.meaning.specs.Values.{Outcome}
use Rattle.protocol_data.specs.Recent.{same_key}
use Rattle.protocol_data.specs.declared.secondaries.CopyKey.{CopyKey}
use Rattle.protocol_data.proofs.Recency.{put_back}
use Rattle.protocol_data.proofs.secondaries.copy_cache.Goals as goal

pub loop-key-preserved : goal.loop-key-preserved
loop-key-preserved c = (
  ap (λ (d : LruCache CopyKey Outcome). d.cap) c.in_ok-put_under.ensures.ok ∙ c.loop-key.invariant.0,
  ap (λ (d : LruCache CopyKey Outcome). c.next_back.new.self ++ d.entries) c.in_ok-put_under.ensures.ok
      ∙ ap (λ v. c.next_back.new.self ++ put_entries same_key c.loop-key.again c.in-Some.key.now v) c.in_ok-copy.ensures
      ∙ put_back c.args.cache.now c.loop-key.again c.loop-key.rest c.next_back.new.self c.in-Some.key.now c.in-Some.content.now c.len.ensures.valid c.loop-key.invariant.0
      c.loop-key.invariant.1 c.in-Some.ensures.steps,
)

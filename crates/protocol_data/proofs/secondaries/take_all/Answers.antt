use Rattle.std.proofs.Common.{ap, sym, ◌∙◌, None, arith, length}
use Rattle.lru.specs.LruCache.{LruCache}
use Rattle.meaning.specs.Values.{Outcome}
use Rattle.protocol_data.specs.Recent.{copies_of}
use Rattle.protocol_data.specs.Shelves.{without}
use Rattle.protocol_data.specs.declared.secondaries.CopyKey.{CopyKey}
use Rattle.protocol_data.proofs.Recency.{found_entry, none_of_all, one_of_all}
use Rattle.protocol_data.proofs.secondaries.take_all.Goals as goal

pub loop-key-smaller : goal.loop-key-smaller
loop-key-smaller c =
    let fewer = (found_entry c.args.object c.loop-key.cache.entries c.in-Some.key (sym c.in-Some.ensures)).1 in
    let taken = ap (λ (d : LruCache CopyKey Outcome). length d.entries) c.take_out.ensures in
    omega (arith, fewer, taken)

pub loop-key-preserved : goal.loop-key-preserved
loop-key-preserved c = (
  ap (λ (d : LruCache CopyKey Outcome). d.cap) c.take_out.ensures ∙ c.loop-key.invariant.0,
  ap (λ (d : LruCache CopyKey Outcome). without c.args.object None (copies_of d.entries)) c.take_out.ensures
      ∙ one_of_all c.args.object c.in-Some.key c.loop-key.cache.entries (found_entry c.args.object c.loop-key.cache.entries c.in-Some.key (sym c.in-Some.ensures)).0
      ∙ c.loop-key.invariant.1,
)

pub returns-clause-copies : goal.returns-clause-copies
returns-clause-copies c =
    sym (none_of_all c.args.object (copies_of c.loop-key.cache.entries) (sym c.in_default.ensures)) ∙ c.loop-key.invariant.1

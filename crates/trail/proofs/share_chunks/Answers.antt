use Rattle.std.proofs.Common.{length, subst, sym, ap, ◌∙◌, map}
use Rattle.std.specs.Arc.{arc_value}
use Rattle.trail.specs.Chunks.{AreFull, items_of}
use Rattle.trail.proofs.Chunked.{full_at, full_push, shared_more}
use Rattle.trail.proofs.share_chunks.Goals as goal

pub loop-chunk-preserved : goal.loop-chunk-preserved
loop-chunk-preserved g c =
    let same = ap (λ v. map arc_value v.items) (c.in_ok-try_clone.ensures ∙ ap arc_value c.chunk-item.is) in (
      shared_more items_of c.args.chunks.now _ _ _ _ _ c.loop-chunk-test.true c.in_ok-push.ensures.items same c.loop-chunk.invariant.0,
      λ f. subst AreFull (sym c.in_ok-push.ensures.items)
          (full_push c.loop-chunk.shared.items c.in_ok-try_clone.field-0 (ap length same ∙ full_at c.args.chunks.now _ _ c.loop-chunk-test.true f) (c.loop-chunk.invariant.1 f)),
    )

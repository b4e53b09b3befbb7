use Rattle.std.proofs.Common.{subst, sym, ap, ◌∙◌}
use Rattle.trail.specs.Chunks.{AreFull, chunks_of}
use Rattle.trail.proofs.Chunked.{full_push}
use Rattle.trail.proofs.add_full.Goals as goal

-- the list is nobody else's
pub returns-in-Some-get_mut-clause-full : goal.returns-in-Some-get_mut-clause-full
returns-in-Some-get_mut-clause-full g c f long =
    let own = subst (λ o. AreFull (chunks_of o)) c.in-Some.is f in
    let all : AreFull c.in-Some-get_mut.all.now.items = subst (λ v. AreFull v.items) (sym c.in-Some-get_mut.ensures.value) own in
    subst AreFull (sym c.in_ok-push.ensures.items) (full_push _ c.args.chunk long all)

-- it is copied
pub returns-clause-full : goal.returns-clause-full
returns-clause-full g c f long =
    let own = subst (λ o. AreFull (chunks_of o)) c.in-Some.is f in
    let all : AreFull c.deref-2.result.now = subst AreFull (sym (c.deref-2.ensures.value ∙ ap (λ v. v.items) c.deref.ensures)) own in
    subst AreFull (sym (ap (λ v. v.items) c.in_ok-new.ensures.ok ∙ c.in_ok-push-2.ensures.items)) (full_push _ c.args.chunk long (c.in_ok-all.ensures.full all))

use Rattle.std.proofs.Common.{◌≡◌, ◌≤◌, length, subst, sym, ap, ◌∙◌, arith}
use Rattle.std.proofs.lemmas.List.{length-map}
use Rattle.std.specs.Arc.{arc_value}
use Rattle.trail.specs.Chunks.{AreFull, chunks_of, items_of, last_items}
use Rattle.trail.proofs.add.Goals as goal

-- the chunk that was the last one is full
pub returns-clause-full : goal.returns-clause-full
returns-clause-full g c f =
    let chunk = c.in-Some.chunk in
    let most : length (items_of chunk) ≤ 64 = subst (λ l. length (last_items l) ≤ 64) c.in-Some.is c.requires in
    let count : length c.deref.result.now.items ≡ length (items_of chunk) = ap (λ v. length v.items) c.deref.ensures ∙ sym (length-map (arc_value chunk).items arc_value) in
    let long : length (items_of chunk) ≡ 64 = omega (arith, most, count, c.len.ensures, c.if-len-lt-ITEMS_OF_A_CHUNK.false) in
    c.in_ok-add_full.ensures.full (subst (λ o. AreFull (chunks_of o)) (sym c.take.ensures.value) f) long

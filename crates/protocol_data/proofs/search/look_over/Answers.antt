use Rattle.std.proofs.Common.{◌∙◌, ◌≡◌, ◌<◌, ℕ, Some, true, false, arith, ap, length, subst, sym}
use Rattle.std.specs.Prelude.{slice_get, ◌+◌, ◌≤◌}
use Rattle.indexmap.specs.IndexMap.{values}
use Rattle.protocol_data.specs.Unneeded.{IsNotKept, IsSearched}
use Rattle.protocol_data.proofs.Searches.{all_before, before_left, before_lowered, lowered, not_kept_there, length_set}
use Rattle.protocol_data.proofs.search.look_over.Goals as goal
use Rattle.protocol_data.proofs.search.look_over.Goals.{then-is_kept, else-is_kept}

pub loop-turn-preserved : goal.loop-turn-preserved
loop-turn-preserved c =
    let xs = values c.args.rows.now in
    let b = c.args.bearer.now in
    let own = c.args.own in
    let fs = c.loop-turn.changed in
    let next = c.next-next.result in
    let on : c.loop-turn.turn + 1 ≤ next + 1 = omega (arith, c.loop-turn.invariant.3, c.next-next.ensures.on) in
    elim c.if-is_kept.branch [
      | then-is_kept w ↦
          let lowered_so = w.changed-is ∙ w.take_mark.ensures in (
            λ seen p. subst (λ gs. IsSearched xs seen gs b own) (sym lowered_so)
                (lowered xs fs b own c.loop-turn.place next c.next-next.ensures.down seen _ c.index.ensures (sym w.if-is_kept.ensures) (c.loop-turn.invariant.0 seen p)),
            ap length lowered_so ∙ length_set fs next false ∙ c.loop-turn.invariant.1,
            subst (λ gs. (i : ℕ) → i < next + 1 → slice_get gs i ≡ Some true → IsNotKept xs i b own) (sym lowered_so)
                (before_lowered xs fs b own c.loop-turn.place next c.next-next.ensures.down c.loop-turn.invariant.2),
            on,
          )
      | else-is_kept w ↦ (
        λ seen p. subst (λ gs. IsSearched xs seen gs b own) (sym w.changed-is) (c.loop-turn.invariant.0 seen p),
        ap length w.changed-is ∙ c.loop-turn.invariant.1,
        subst (λ gs. (i : ℕ) → i < next + 1 → slice_get gs i ≡ Some true → IsNotKept xs i b own) (sym w.changed-is)
            (before_left xs fs b own c.loop-turn.place next c.next-next.ensures.down c.loop-turn.invariant.2
            (not_kept_there xs next own b _ c.index.ensures (sym w.if-is_kept.ensures))),
        on,
      )
    ]

pub returns-clause-looked : goal.returns-clause-looked
returns-clause-looked c =
    all_before (values c.args.rows.now) c.loop-turn.changed c.args.bearer.now c.args.own c.loop-turn.place c.loop-turn.invariant.2
    (omega (arith, c.loop-turn.invariant.1, c.loop-turn.invariant.3, c.requires, c.len-count.ensures.len, c.loop-turn-test.false))

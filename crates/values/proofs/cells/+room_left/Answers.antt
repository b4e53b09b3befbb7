use Rattle.std.proofs.Common.{◌+◌, ◌<◌, ap, ◌∙◌, sym, subst}
use Rattle.values.specs.Values.{value_of}
use Rattle.values.specs.Cells.{cells}
use Rattle.values.proofs.Counting.{all_left, left_behind, too_much}
use Rattle.values.proofs.cells.+room_left.Goals as goal

pub loop-item-init : goal.loop-item-init
loop-item-init t c = c.in-Some.ensures.some

pub returns-in_default-room_left-clause-none : goal.returns-in_default-room_left-clause-none
returns-in_default-room_left-clause-none t c =
    subst (λ v. c.args.room < cells (value_of v)) (sym c.in-List.is)
    (too_much c.deref-item-items.result.now c.loop-item.item-index c.loop-item.left c.args.room c.item-item.result c.item-item.result c.in-List.items
    c.loop-item-test.true (sym c.item-item.is) c.deref-item-items.ensures.value c.loop-item.invariant c.in_default-room_left.ensures.none)

pub loop-item-preserved : goal.loop-item-preserved
loop-item-preserved t c =
    left_behind c.deref-item-items.result.now c.loop-item.item-index c.loop-item.left c.in-Some-room_left.behind c.args.room c.item-item.result c.item-item.result
    c.loop-item-test.true (sym c.item-item.is) c.loop-item.invariant c.in-Some-room_left.ensures.some

pub returns-after-loop-item-clause-some : goal.returns-after-loop-item-clause-some
returns-after-loop-item-clause-some t c =
    ap (λ v. cells (value_of v) + c.loop-item.left) c.in-List.is
    ∙ all_left c.deref-item-items.result.now c.loop-item.item-index c.loop-item.left c.args.room c.in-List.items c.loop-item-test.false c.deref-item-items.ensures.value c.loop-item.invariant

use Rattle.std.proofs.Common.{sym, ◌∙◌, string_bytes, arith}
use Rattle.cut_values.proofs.Cutting.{cut_returned, whole_returned}
use Rattle.cut_values.proofs.cut.+add_cut.Goals as goal

pub returns-then-is_cut : goal.returns-then-is_cut
returns-then-is_cut t c =
    cut_returned (string_bytes c.args.text.now) (string_bytes c.push_str.new.self) (string_bytes c.loop-place.text) (string_bytes c.write_left.new.text)
    c.in-List.items c.args.value.now c.deref-item-items.result.now c.loop-place.place c.len-all.result c.saturating_sub.result c.item-item.result
    c.item-item.result c.write_left.result c.in-List.is c.deref-item-items.ensures.value c.in_ok-push_str-in-List.ensures.bytes c.loop-place-test.true
    (sym c.item-item.is) (omega (arith, c.len-all.ensures, c.deref-item-items.ensures.len)) (sym c.is_cut.ensures ∙ c.if-is_cut.true) c.loop-place.invariant c.saturating_sub.ensures c.write_left.ensures

pub returns-in_ok-push_str-in-List-2 : goal.returns-in_ok-push_str-in-List-2
returns-in_ok-push_str-in-List-2 t c =
    whole_returned (string_bytes c.args.text.now) (string_bytes c.push_str.new.self) (string_bytes c.loop-place.text) (string_bytes c.push_str-in-List.new.self)
    c.in-List.items c.args.value.now c.deref-item-items.result.now c.loop-place.place c.in-List.is c.deref-item-items.ensures.value
    c.in_ok-push_str-in-List.ensures.bytes c.loop-place-test.false c.loop-place.invariant c.in_ok-push_str-in-List-2.ensures.bytes

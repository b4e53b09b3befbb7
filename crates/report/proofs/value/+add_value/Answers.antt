use Rattle.std.proofs.Common.{sym}
use Rattle.std.specs.Prelude.{string_bytes}
use Rattle.report.proofs.Items.{item_written, list_written}
use Rattle.report.proofs.value.+add_value.Goals as goal

pub loop-place-preserved : goal.loop-place-preserved
loop-place-preserved t c =
    item_written (string_bytes c.push_str-in-List.new.self) (string_bytes c.loop-place.text) (string_bytes c.separate.new.text) (string_bytes c.add_value.new.text) c.deref-item-items.result.now c.loop-place.place c.item-item.result c.item-item.result
    c.loop-place-test.true (sym c.item-item.is) c.loop-place.invariant c.in_ok-separate-in-List.ensures c.in_ok-add_value-in-List.ensures

pub returns-in_ok-push_str-in-List-2 : goal.returns-in_ok-push_str-in-List-2
returns-in_ok-push_str-in-List-2 t c =
    list_written (string_bytes c.args.text.now) (string_bytes c.push_str-in-List.new.self) (string_bytes c.loop-place.text) (string_bytes c.push_str-in-List-2.new.self) c.in-List.items c.args.value.now c.deref-item-items.result.now c.loop-place.place
    c.in-List.is c.deref-item-items.ensures.value c.loop-place-test.false c.in_ok-push_str-in-List.ensures.bytes c.loop-place.invariant c.in_ok-push_str-in-List-2.ensures.bytes

use Rattle.std.proofs.Common.{sym}
use Rattle.std.specs.Prelude.{string_bytes}
use Rattle.report.proofs.Items.{print_written}
use Rattle.report.proofs.main_lines.write_prints.Goals as goal

pub loop-value-preserved : goal.loop-value-preserved
loop-value-preserved c =
    print_written (string_bytes c.args.text.now) (string_bytes c.loop-value.text) (string_bytes c.push_str.new.self) (string_bytes c.write_value.new.text) (string_bytes c.push_str-in-loop-value.new.self) c.args.prints.now c.loop-value.value-index c.value-item.result c.value-item.result
    c.loop-value-test.true (sym c.value-item.is) c.loop-value.invariant c.in_ok-push_str.ensures.bytes c.in_ok-write_value.ensures.done c.in_ok-push_str-2.ensures.bytes

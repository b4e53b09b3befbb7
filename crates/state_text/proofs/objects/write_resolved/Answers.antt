use Rattle.std.proofs.Common.{string_bytes}
use Rattle.holder_text.proofs.Writing.{three}
use Rattle.state_text.proofs.objects.write_resolved.Goals as goal

pub returns : goal.returns
returns c =
    three (string_bytes c.args.text.now) (string_bytes c.push_str.new.self) (string_bytes c.write_fault.new.text) (string_bytes c.push_str-2.new.self)
    _ _ _ c.in_ok-push_str.ensures.bytes c.in_ok-write_fault.ensures.done c.in_ok-push_str-2.ensures.bytes

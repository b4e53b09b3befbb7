use Rattle.std.proofs.Common.{string_bytes}
use Rattle.holder_text.proofs.Writing.{three}
use Rattle.holder_text.proofs.holders.write_frame_of.Goals as goal

pub returns : goal.returns
returns c = λ h.
    three (string_bytes c.args.text.now) (string_bytes c.write_frame_head.new.text) (string_bytes c.write_named.new.text) (string_bytes c.push_str.new.self)
    _ _ _ c.in_ok-write_frame_head.ensures (c.in_ok-write_named.ensures.done h) c.in_ok-push_str.ensures.bytes

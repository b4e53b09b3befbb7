use Rattle.std.proofs.Common.{string_bytes}
use Rattle.main_text.proofs.Writing.{four}
use Rattle.main_text.proofs.links.write_message.Goals as goal

pub returns : goal.returns
returns c =
    four (string_bytes c.args.text.now) (string_bytes c.write.new.self) (string_bytes c.write_envelope_at.new.text) (string_bytes c.push_str.new.self)
    (string_bytes c.write_remedy.new.text) _ _ _ _ c.in_ok-write.ensures.bytes c.in_ok-write_envelope_at.ensures c.in_ok-push_str.ensures.bytes
    c.in_ok-write_remedy.ensures

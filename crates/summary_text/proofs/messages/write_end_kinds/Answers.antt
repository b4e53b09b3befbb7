use Rattle.std.proofs.Common.{string_bytes}
use Rattle.summary_text.proofs.Writing.{six}
use Rattle.summary_text.proofs.messages.write_end_kinds.Goals as goal

pub returns : goal.returns
returns c =
    six (string_bytes c.args.text.now) (string_bytes c.write_kind.new.text) (string_bytes c.write_kind-2.new.text) (string_bytes c.write_kind-3.new.text)
    (string_bytes c.write_kind-4.new.text) (string_bytes c.write_kind-5.new.text) (string_bytes c.write_kind-6.new.text) _ _ _ _ _ _
    c.in_ok-write_kind.ensures c.in_ok-write_kind-2.ensures c.in_ok-write_kind-3.ensures c.in_ok-write_kind-4.ensures c.in_ok-write_kind-5.ensures
    c.in_ok-write_kind-6.ensures

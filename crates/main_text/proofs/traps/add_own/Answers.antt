use Rattle.std.proofs.Common.{string_bytes}
use Rattle.main_text.specs.Traps.{own_text}
use Rattle.main_text.proofs.Writing.{five}
use Rattle.main_text.proofs.traps.add_own.Goals as goal

pub returns : goal.returns
unfolding own_text
returns c = λ h.
    five (string_bytes c.args.text.now) (string_bytes c.write_named.new.text) (string_bytes c.push_str.new.self)
    (string_bytes c.write_behind_of.new.text) (string_bytes c.write_trap_of.new.text) (string_bytes c.push_str-2.new.self) _ _ _ _ _
    (c.in_ok-write_named.ensures.done h) c.in_ok-push_str.ensures.bytes c.in_ok-write_behind_of.ensures c.in_ok-write_trap_of.ensures
    c.in_ok-push_str-2.ensures.bytes

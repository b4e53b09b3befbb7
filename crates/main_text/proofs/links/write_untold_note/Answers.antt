use Rattle.std.proofs.Common.{string_bytes}
use Rattle.main_text.specs.Links.{untold_note}
use Rattle.main_text.proofs.Writing.{three}
use Rattle.main_text.proofs.links.write_untold_note.Goals as goal

pub returns : goal.returns
unfolding untold_note
returns c =
    three (string_bytes c.args.text.now) (string_bytes c.push_str.new.self) (string_bytes c.write_worker.new.text)
    (string_bytes c.push_str-2.new.self) _ _ _ c.in_ok-push_str.ensures.bytes c.in_ok-write_worker.ensures.done c.in_ok-push_str-2.ensures.bytes

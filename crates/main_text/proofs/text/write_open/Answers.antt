use Rattle.std.proofs.Common.{string_bytes}
use Rattle.main_text.specs.Text.{open_text}
use Rattle.main_text.proofs.Writing.{two}
use Rattle.main_text.proofs.text.write_open.Goals as goal

pub returns : goal.returns
unfolding open_text
returns c =
    two (string_bytes c.args.text.now) (string_bytes c.push_str.new.self) (string_bytes c.write_all_links.new.text) _ _ c.in_ok-push_str.ensures.bytes
    c.in_ok-write_all_links.ensures

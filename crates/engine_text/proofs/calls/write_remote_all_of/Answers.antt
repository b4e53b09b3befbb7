use Rattle.std.proofs.Common.{string_bytes, codes}
use Rattle.std.specs.Fmt.{decimal}
use Rattle.engine_text.specs.Expressions.{remote_all_of}
use Rattle.engine_text.proofs.Rows.{on_ok, pushed, three}
use Rattle.engine_text.proofs.calls.write_remote_all_of.Goals as goal

pub returns : goal.returns
unfolding remote_all_of
returns c =
    on_ok _ _ c.push_str-2.result
    (three (string_bytes c.args.text.now) (codes "remote_all(") (decimal c.args.others) (codes ", ") (string_bytes c.push_str.new.self)
    (string_bytes c.write_number.new.text) (string_bytes c.push_str-2.new.self) c.in_ok-push_str.ensures.bytes c.in_ok-write_number.ensures)
    (pushed c.push_str-2.result (string_bytes c.write_number.new.text) (codes ", ") (string_bytes c.push_str-2.new.self) c.push_str-2.ensures.bytes)

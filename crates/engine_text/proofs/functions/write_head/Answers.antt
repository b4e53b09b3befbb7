use Rattle.std.proofs.Common.{string_bytes, codes}
use Rattle.engine_text.specs.Expressions.{function_name}
use Rattle.engine_text.proofs.Rows.{three}
use Rattle.engine_text.proofs.functions.write_head.Goals as goal

pub returns : goal.returns
returns c =
    three (string_bytes c.args.text.now) (codes "\n\n@script\ndef ") (function_name c.args.name.now) (codes "(depth") (string_bytes c.push_str.new.self)
    (string_bytes c.write_function_name.new.text) (string_bytes c.push_str-2.new.self) c.in_ok-push_str.ensures.bytes c.in_ok-write_function_name.ensures
    c.in_ok-push_str-2.ensures.bytes

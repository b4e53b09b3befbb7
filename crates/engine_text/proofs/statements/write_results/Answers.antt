use Rattle.std.proofs.Common.{string_bytes, codes, map}
use Rattle.std.specs.List.{flat_map}
use Rattle.script_check.specs.Trees.{exprs_of}
use Rattle.engine_text.specs.Expressions.{variable_name, call_head, arguments_text}
use Rattle.engine_text.specs.Statements.{other_name}
use Rattle.engine_text.proofs.Rows.{on_ok, pushed, six}
use Rattle.engine_text.proofs.statements.write_results.Goals as goal

pub returns : goal.returns
returns c =
    on_ok _ _ c.push_str-3.result
    (six (string_bytes c.args.text.now) c.args.margin.now (variable_name c.args.first.now) (flat_map other_name (map string_bytes c.args.others.now))
    (codes " = ") (call_head c.args.function.now) (arguments_text (exprs_of c.args.arguments.now)) (codes "\n") (string_bytes c.push_str.new.self)
    (string_bytes c.write_names.new.text) (string_bytes c.push_str-2.new.self) (string_bytes c.write_call_head.new.text)
    (string_bytes c.write_arguments.new.text) (string_bytes c.push_str-3.new.self) c.in_ok-push_str.ensures.bytes c.in_ok-write_names.ensures
    c.in_ok-push_str-2.ensures.bytes c.in_ok-write_call_head.ensures c.in_ok-write_arguments.ensures)
    (pushed c.push_str-3.result (string_bytes c.write_arguments.new.text) (codes "\n") (string_bytes c.push_str-3.new.self) c.push_str-3.ensures.bytes)

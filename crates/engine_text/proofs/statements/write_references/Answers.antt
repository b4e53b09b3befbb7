use Rattle.std.proofs.Common.{length, string_bytes, codes, map, sym, ap, ◌∙◌, ◌++◌}
use Rattle.std.specs.List.{flat_map}
use Rattle.std.proofs.lemmas.List.{length-map}
use Rattle.script_check.specs.Trees.{exprs_of}
use Rattle.engine_text.specs.Expressions.{variable_name, remote_all_head, marked_text}
use Rattle.engine_text.specs.Statements.{other_name}
use Rattle.engine_text.proofs.Rows.{on_ok, pushed, six}
use Rattle.engine_text.proofs.statements.write_references.Goals as goal

pub returns : goal.returns
returns c =
    let xs = map string_bytes c.args.others.now in
    let head = remote_all_head (length xs) c.args.retries c.args.function.now in
    on_ok _ _ c.push_str-3.result
    (six (string_bytes c.args.text.now) c.args.margin.now (variable_name c.args.first.now) (flat_map other_name xs)
    (codes " = ") head (marked_text c.args.marks.now (exprs_of c.args.arguments.now)) (codes "\n") (string_bytes c.push_str.new.self)
    (string_bytes c.write_names.new.text) (string_bytes c.push_str-2.new.self) (string_bytes c.write_remote_all_head.new.text)
    (string_bytes c.write_marked.new.text) (string_bytes c.push_str-3.new.self) c.in_ok-push_str.ensures.bytes c.in_ok-write_names.ensures
    c.in_ok-push_str-2.ensures.bytes
    (c.in_ok-write_remote_all_head.ensures
    ∙ ap (λ n. string_bytes c.push_str-2.new.self ++ remote_all_head n c.args.retries c.args.function.now) (sym (length-map c.args.others.now string_bytes)))
    c.in_ok-write_marked.ensures)
    (pushed c.push_str-3.result (string_bytes c.write_marked.new.text) (codes "\n") (string_bytes c.push_str-3.new.self) c.push_str-3.ensures.bytes)

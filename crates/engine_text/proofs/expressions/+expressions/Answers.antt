use Rattle.std.proofs.Common.{◌++◌, ap, ◌∙◌, string_bytes}
use Rattle.engine_text.specs.Expressions.{call_head, remote_head}
use Rattle.engine_text.proofs.Rows.{on_ok, list_written, call_written, remote_written}
use Rattle.engine_text.proofs.expressions.+expressions.Goals as goal

pub write_expression-returns-in-List : goal.write_expression-returns-in-List
write_expression-returns-in-List t c =
    on_ok _ _ c.write_list.result
    (list_written c.args.expr.now c.in-List.items c.deref-in-List.result.now (string_bytes c.args.text.now) (string_bytes c.write_list.new.text)
    c.in-List.is c.deref-in-List.ensures.value)
    c.write_list.ensures

pub write_expression-returns-in_ok-write_call_head-in-Call : goal.write_expression-returns-in_ok-write_call_head-in-Call
write_expression-returns-in_ok-write_call_head-in-Call t c =
    let base = string_bytes c.args.text.now in
    on_ok _ _ c.write_arguments.result
    (call_written c.args.expr.now c.in-Call.function c.in-Call.arguments c.deref-in-Call.result.now base (string_bytes c.write_call_head.new.text)
    (string_bytes c.write_arguments.new.text) c.in-Call.is c.deref-in-Call.ensures.value
    (c.in_ok-write_call_head-in-Call.ensures ∙ ap (λ g. base ++ call_head g) c.as_str-in-Call.ensures.value))
    c.write_arguments.ensures

pub write_expression-returns-in_ok-write_remote_head-in-Remote : goal.write_expression-returns-in_ok-write_remote_head-in-Remote
write_expression-returns-in_ok-write_remote_head-in-Remote t c =
    let base = string_bytes c.args.text.now in
    on_ok _ _ c.write_marked.result
    (remote_written c.args.expr.now c.in-Remote.retries c.in-Remote.function c.in-Remote.marks c.in-Remote.arguments c.deref-in-Remote-2.result.now
    c.deref-in-Remote.result.now base (string_bytes c.write_remote_head.new.text) (string_bytes c.write_marked.new.text) c.in-Remote.is
    c.deref-in-Remote.ensures.value c.deref-in-Remote-2.ensures.value
    (c.in_ok-write_remote_head-in-Remote.ensures ∙ ap (λ g. base ++ remote_head c.in-Remote.retries g) c.as_str-in-Remote.ensures.value))
    c.write_marked.ensures

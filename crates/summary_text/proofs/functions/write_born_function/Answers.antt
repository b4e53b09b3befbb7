use Rattle.std.proofs.Common.{◌∙◌, ◌++◌, ap, string_bytes}
use Rattle.summary_text.specs.Functions.{born_line, function_line}
use Rattle.summary_text.proofs.functions.write_born_function.Goals as goal

pub returns : goal.returns
unfolding born_line
returns c = λ h k.
    c.in_ok-write_function.ensures h k
    ∙ ap (λ n. string_bytes c.args.text.now ++ function_line c.args.log.now c.args.function.now n) (c.column_count-tasks.ensures h k)

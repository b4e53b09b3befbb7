use Rattle.std.proofs.Common.{◌∙◌, ◌++◌, ap, string_bytes}
use Rattle.summary_text.specs.Functions.{function_line, tasks_words}
use Rattle.summary_text.proofs.Writing.{same_numbers, three}
use Rattle.summary_text.proofs.functions.write_function.Goals as goal

pub returns : goal.returns
unfolding function_line
returns c = λ h k.
    three (string_bytes c.args.text.now) (string_bytes c.write_tasks.new.text) (string_bytes c.write_attempts.new.text) (string_bytes c.write_ends.new.text)
    _ _ _ c.in_ok-write_tasks.ensures c.in_ok-write_attempts.ensures c.in_ok-write_ends.ensures
    ∙ ap (λ t. string_bytes c.args.text.now ++ t)
    (same_numbers (tasks_words c.args.function.now c.args.tasks) _ _ _ _ _ _ _ _ _ _ _ _
    (c.column_count-attempts.ensures h k) (c.column_count-deaths.ensures h k) (c.column_count-losses.ensures h k)
    (c.column_count-results.ensures h k) (c.column_count-faults.ensures h k) (c.column_count-given_up.ensures h k))

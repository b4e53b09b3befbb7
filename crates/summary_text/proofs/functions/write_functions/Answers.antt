use Rattle.std.proofs.Common.{codes, string_bytes}
use Rattle.summary_text.specs.Functions.{function_line, functions_text, others_text}
use Rattle.summary_text.proofs.Writing.{two}
use Rattle.summary_text.proofs.functions.write_functions.Goals as goal

pub returns : goal.returns
unfolding functions_text
returns c = λ h k.
    two (string_bytes c.args.text.now) (string_bytes c.write_function.new.text) (string_bytes c.write_others.new.text) (function_line c.args.log.now (codes "main") 1)
    (others_text c.args.log.now) (c.in_ok-write_function.ensures h k) (c.in_ok-write_others.ensures h k)

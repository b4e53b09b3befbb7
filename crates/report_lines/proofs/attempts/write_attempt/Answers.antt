use Rattle.std.proofs.Common.{◌++◌, ◌∙◌, ap, string_bytes, sym}
use Rattle.report_lines.proofs.Said.{line_is, on_ok}
use Rattle.report_lines.proofs.attempts.write_attempt.Goals as goal

pub returns : goal.returns
returns c log states =
    on_ok c.write_line.result
    (λ h. h ∙ ap (λ t. string_bytes c.args.text.now ++ t) (line_is log c.in-Begun.attempt c.in-Begun.worker _ c.in-Begun.is (sym c.is_main.ensures ∙ c.if-is_main.false)))
    (c.write_line.ensures log (c.line_end.ensures log states))

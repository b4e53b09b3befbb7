use Rattle.std.proofs.Common.{◌++◌, ◌/◌, ◌%◌, ap, append_assoc, arith, string_bytes, sym, ◌∙◌}
use Rattle.std.specs.Fmt.{decimal}
use Rattle.report_lines.proofs.Digits.{one_more}
use Rattle.report_lines.proofs.Said.{on_ok}
use Rattle.report_lines.proofs.numbers.write_three.Goals as goal

-- the first two digits, and the third
pub returns : goal.returns
returns c =
    let n = c.args.number in
    let old = string_bytes c.args.text.now in
    on_ok c.write_digit.result
    (λ h. h ∙ ap (λ b. b ++ decimal (n % 10)) c.in_ok-write_two.ensures ∙ append_assoc old (decimal (n / 10)) (decimal (n % 10))
    ∙ ap (λ b. old ++ b) (sym (one_more n (omega (arith, c.requires.some)) c.ranges.number.fits)))
    c.write_digit.ensures

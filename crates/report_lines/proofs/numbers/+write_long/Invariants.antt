use Rattle.report_lines.proofs.numbers.+write_long.Given as goal

-- each call has one digit less
abbrev pub decreases-write_long : goal.decreases-write_long
decreases-write_long l = l.number

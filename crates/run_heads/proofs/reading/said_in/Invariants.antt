use Rattle.std.proofs.Common.{◌≡◌, length}
use Rattle.run_heads.specs.Heads.{lines_in, said_in}
use Rattle.run_heads.proofs.reading.said_in.Given as goal

abbrev pub invariant-loop-line : goal.invariant-loop-line
invariant-loop-line l = said_in l.word (lines_in l.rest) ≡ said_in l.word (lines_in l.text)

abbrev pub decreases-loop-line : goal.decreases-loop-line
decreases-loop-line l = length l.rest

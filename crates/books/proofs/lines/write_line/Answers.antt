use Rattle.std.proofs.Common.{◌++◌, sym, ap, ◌∙◌, append-nil}
use Rattle.std.specs.Prelude.{string_bytes}
use Rattle.books.specs.Summing.{sums_in}
use Rattle.books.proofs.Committed.{no_line}
use Rattle.books.proofs.lines.write_line.Goals as goal

pub returns-then-sums-eq0 : goal.returns-then-sums-eq0
returns-then-sums-eq0 c =
    let none = no_line c.args.seat c.args.log.now (sums_in c.sums_of-sums.result) c.sums_of-sums.ensures c.if-sums-eq0.true in
    sym (ap (λ bytes. string_bytes c.args.text.now ++ bytes) none ∙ append-nil (string_bytes c.args.text.now))

use Rattle.std.proofs.Common.{subst, sym, ◌∷◌}
use Rattle.event_reading.specs.Known.{IfKnown, IsNextByte, left_of}
use Rattle.event_reading.specs.Rows.{IsNextRow}
use Rattle.event_reading.proofs.Going.{row_behind}
use Rattle.event_reading.proofs.row.next_row.Goals as goal

pub returns-then-first-eq35-clause-row : goal.returns-then-first-eq35-clause-row
returns-then-first-eq35-clause-row g c =
    let next = subst (λ o. IfKnown (left_of c.args.ahead.now.items (g.R.Source.left c.args.reader.now))
    (left_of c.next_byte.new.ahead.items (g.R.Source.left c.next_byte.new.reader)) (IsNextByte o)) c.in-Some.is c.in_ok-first.ensures.taken in
    let told = subst (λ x. IfKnown (left_of c.next_byte.new.ahead.items (g.R.Source.left c.next_byte.new.reader))
    (left_of c.passed_row.new.ahead.items (g.R.Source.left c.passed_row.new.reader)) (λ b r. IsNextRow c.args.most c.in_ok-row.row (x ∷ b) r))
    (sym c.if-first-eq35.true) (c.in_ok-row.ensures.passed c.args.most) in
    row_behind c.args.most c.in-Some.first _ _ _ c.in_ok-row.row next told

pub returns-clause-row : goal.returns-clause-row
returns-clause-row g c =
    let next = subst (λ o. IfKnown (left_of c.args.ahead.now.items (g.R.Source.left c.args.reader.now))
    (left_of c.next_byte.new.ahead.items (g.R.Source.left c.next_byte.new.reader)) (IsNextByte o)) c.in-Some.is c.in_ok-first.ensures.taken in
    row_behind c.args.most c.in-Some.first _ _ _ c.in_ok-row-2.row next c.in_ok-row-2.ensures.said

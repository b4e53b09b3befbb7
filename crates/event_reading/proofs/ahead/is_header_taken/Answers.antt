use Rattle.std.proofs.Common.{rules, sym, ◌∙◌}
use Rattle.event_reading.proofs.Bytes.{header_left, not_same}
use Rattle.event_reading.proofs.ahead.is_header_taken.Goals as goal

pub returns-clause-taken : goal.returns-clause-taken
returns-clause-taken g c =
    header_left _ _ c.in_ok-front.front.items c.begin.new.ahead.items c.put_back.new.ahead.items
    (λ e. not_same c.as_slice.result.now c.as_slice-2.result.now (sym c.eq.ensures ∙ c.if-eq.false) (c.as_slice.ensures.value ∙ e ∙ search rules))
    c.in_ok-front.ensures.begun (search rules)

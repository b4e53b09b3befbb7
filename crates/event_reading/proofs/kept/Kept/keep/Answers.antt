use Rattle.std.proofs.Common.{◌≡◌, ◌∙◌, ◌+◌, Bool, true, false, refl, arith}
use Rattle.event_reading.proofs.Keeping.{pushed}
use Rattle.event_reading.proofs.kept.Kept.keep.Goals as goal

pub returns-then-is_event-clause-done : goal.returns-then-is_event-clause-done
returns-then-is_event-clause-done g c counts all numbers same h =
    let is : counts c.args.said ≡ true = same ∙ c.if-is_event.true in
    pushed counts all numbers c.args.self.now c.add_line.new.says c.add_line.new.numbers c.args.said c.args.number (c.args.self.now.events + 1)
    c.in_ok-add_line.ensures.says c.in_ok-add_line.ensures.numbers (rw is refl) (λ m. let few = c.if-self-gt-MOST_EVENTS.false in omega (arith, m, few)) h

pub returns-else-is_event-clause-done : goal.returns-else-is_event-clause-done
returns-else-is_event-clause-done g c counts all numbers same h =
    let is : counts c.args.said ≡ false = same ∙ c.if-is_event.false in
    pushed counts all numbers c.args.self.now c.add_line.new.says c.add_line.new.numbers c.args.said c.args.number c.args.self.now.events
    c.in_ok-add_line.ensures.says c.in_ok-add_line.ensures.numbers (rw is (omega arith)) (λ m. let few = c.if-self-gt-MOST_EVENTS.false in omega (arith, m, few)) h

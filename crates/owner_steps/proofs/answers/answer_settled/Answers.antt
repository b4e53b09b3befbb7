use Rattle.std.proofs.Common.{◌≡◌, ◌==◌, ◌∙◌, Ok, Err, OnOk, Result, ap, length, sym}
use Rattle.protocol.specs.Steps.{WorkerContext}
use Rattle.protocol.specs.Locations.{answers_settled, needs_own_if_waiting}
use Rattle.owner_steps.proofs.Asked.{own_alone}
use Rattle.owner_steps.proofs.answers.answer_settled.Goals as goal

so : {A B : Type 0} (new old given : WorkerContext) (r : Result A B) → old ≡ given → OnOk r (new ≡ old) → OnOk r (new ≡ given)
so new old given (Ok a) e h = h ∙ e
so new old given (Err b) e h = h

-- where nobody else asked, the own attempt alone is answered
pub returns-then-is_empty-clause-done : goal.returns-then-is_empty-clause-done
returns-then-is_empty-clause-done c =
    let here = c.args.here.now in
    let object = c.args.object in
    let none = sym c.if-is_empty.true ∙ c.is_empty.ensures ∙ ap (λ ws. length ws == 0) c.as_slice.ensures in
    so c.need_own_if_waiting.new.here (needs_own_if_waiting here object) (answers_settled here object) c.need_own_if_waiting.result
    (own_alone here object c.in-Some.found.now c.in-Some.ensures none) c.need_own_if_waiting.ensures.done

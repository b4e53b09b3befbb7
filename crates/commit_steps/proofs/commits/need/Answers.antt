use Rattle.std.proofs.Common.{◌≡◌, OnOk, subst}
use Rattle.protocol.specs.Commits.{asks_where, rests_if_waiting}
use Rattle.commit_steps.proofs.commits.need.Goals as goal

pub returns-clause-done : goal.returns-clause-done
returns-clause-done c = λ run e.
    let y = c.args.object in
    subst (λ g. OnOk c.rest_if_waiting.result (c.rest_if_waiting.new.here ≡ rests_if_waiting (asks_where g y) y)) (c.set_phase.ensures run e)
    (subst (λ g. OnOk c.rest_if_waiting.result (c.rest_if_waiting.new.here ≡ rests_if_waiting g y)) c.in_ok-ask_where.ensures.done c.rest_if_waiting.ensures.done)

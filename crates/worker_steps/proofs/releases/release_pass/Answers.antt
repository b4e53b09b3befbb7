use Rattle.std.proofs.Common.{ap, sym, ◌∙◌, arith}
use Rattle.protocol.specs.Releases.{releases_by}
use Rattle.protocol.specs.Steps.{each_from, own_object}
use Rattle.worker_steps.proofs.Goings.{any_err}
use Rattle.worker_steps.proofs.Looking.{none_gone, one_goes, one_released, passed_all}
use Rattle.worker_steps.proofs.releases.release_pass.Goals as goal

pub returns-then-next-count-clause-done : goal.returns-then-next-count-clause-done
returns-then-next-count-clause-done c =
    sym (passed_all _ _ _ _ c.next_place_here-next.ensures.on (omega (arith, c.if-next-count.true)) c.next_place_here-next.ensures.none)
    ∙ c.loop-turn.invariant.0
    ∙ ap (λ n. each_from (λ g k. releases_by g k (own_object g k)) c.args.here.now 1 n) c.count_of-count.ensures.len

pub loop-turn-preserved : goal.loop-turn-preserved
loop-turn-preserved c = (
  one_released _ _ _ _ _ _ c.next_place_here-next.ensures.on c.next_place_here-next.ensures.none (omega (arith, c.if-next-count.false)) c.in_ok-release_by.ensures.done c.loop-turn.invariant.0,
  omega (arith, c.loop-turn.invariant.1, c.next_place_here-next.ensures.on),
  none_gone _ _ _ _ _ c.count_of-count.ensures.len (omega (arith, c.if-next-count.false)) c.loop-turn.invariant.2 c.in_ok-release_by.ensures.done,
)

pub returns-in_err-release_by-clause-asked : goal.returns-in_err-release_by-clause-asked
returns-in_err-release_by-clause-asked c =
    any_err c.from_residual.result (one_goes _ _ _ _ c.count_of-count.ensures.len (omega (arith, c.if-next-count.false)) c.loop-turn.invariant.2 c.in_err-release_by.ensures.asked)

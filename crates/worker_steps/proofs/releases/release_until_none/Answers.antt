use Rattle.std.proofs.Common.{false, ◌+◌, ◌-◌, ap, sym, ◌∙◌, arith}
use Rattle.std.specs.Prelude.{◌==◌}
use Rattle.protocol.specs.Releases.{entries_made, release_passes}
use Rattle.worker_steps.proofs.EachLaws.{pass_again}
use Rattle.worker_steps.proofs.Goings.{any_err, differ}
use Rattle.worker_steps.proofs.Looking.{none_passed, pass_goes}
use Rattle.worker_steps.proofs.releases.release_until_none.Goals as goal

pub loop-turn-preserved : goal.loop-turn-preserved
loop-turn-preserved c = (
  ap (release_passes false (c.len-count.result + 1 - (c.loop-turn.turn + 1))) c.in_ok-release_once.ensures.done
      ∙ sym (pass_again c.loop-turn.here c.len-count.result c.loop-turn.turn c.loop-turn-test.true
      (ap (λ a. entries_made a == entries_made c.loop-turn.here) (sym c.in_ok-release_once.ensures.done)
      ∙ ap (λ m. m == entries_made c.loop-turn.here) (sym c.len.ensures)
      ∙ ap (λ m. c.len.result == m) (sym c.len-made.ensures)
      ∙ differ _ _ c.if-len-made.false))
      ∙ c.loop-turn.invariant.0,
  none_passed _ _ _ c.loop-turn.invariant.1 c.in_ok-release_once.ensures.done,
)

pub returns-in_err-release_once-clause-asked : goal.returns-in_err-release_once-clause-asked
returns-in_err-release_once-clause-asked c = any_err c.from_residual.result (pass_goes _ _ c.loop-turn.invariant.1 c.in_err-release_once.ensures.asked)

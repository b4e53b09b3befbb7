use Rattle.std.proofs.Common.{◌≤◌, length, arith}
use Rattle.std.proofs.lemmas.Bool.Decides.{nat_tests}
use Rattle.worker_steps.proofs.Looking.{nothing_released}
use Rattle.worker_steps.proofs.releases.none_goes.Goals as goal

pub returns : goal.returns
returns c behind =
    let past : length c.args.here.now.worker.objects ≤ c.next_place_here.result = grind (arith, nat_tests, behind, c.count_of.ensures.len) in
    nothing_released c.args.here.now c.next_place_here.result past c.next_place_here.ensures.none

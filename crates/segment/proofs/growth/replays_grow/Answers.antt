use Rattle.segment.proofs.Growing.{runs_grow}
use Rattle.meaning.specs.Values.{results_of}
use Rattle.meaning.specs.Meaning.{run_birth}
use Rattle.segment.proofs.growth.replays_grow.Goals as goal

pub returns : goal.returns
returns c = λ script spec base answers further. runs_grow (results_of spec) (run_birth script spec) base answers further

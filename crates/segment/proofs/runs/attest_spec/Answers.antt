use Rattle.std.proofs.Common.{subst}
use Rattle.std.specs.Arc.{arc_value}
use Rattle.evaluation.specs.TaskValues.{IsTaskBirth}
use Rattle.evaluation.proofs.TaskRuns.{plain_birth}
use Rattle.segment.proofs.runs.attest_spec.Goals as goal

pub returns : goal.returns
returns c = subst IsTaskBirth c.spec.view_is (plain_birth (arc_value c.spec.inside.inner))

use Rattle.migration.proofs.Migrating.{histories_replay}
use Rattle.migration.proofs.law.histories_replay.Goals as goal

pub returns : goal.returns
returns c = histories_replay

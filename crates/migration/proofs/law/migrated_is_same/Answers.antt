use Rattle.migration.proofs.Alike.{migrated_is_same}
use Rattle.migration.proofs.law.migrated_is_same.Goals as goal

pub returns : goal.returns
returns c = migrated_is_same

use Rattle.event_files.proofs.Readers.{printed}
use Rattle.event_files.proofs.laws.printed_is_read.Goals as goal

pub returns : goal.returns
returns c es h = printed es h

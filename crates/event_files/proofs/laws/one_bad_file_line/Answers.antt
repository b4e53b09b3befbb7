use Rattle.event_files.proofs.BothFormats.{one_refused}
use Rattle.event_files.proofs.laws.one_bad_file_line.Goals as goal

pub returns : goal.returns
returns c bytes m n h k = one_refused bytes m n h k

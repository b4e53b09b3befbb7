use Rattle.event_files.proofs.BothFormats.{none_refused}
use Rattle.event_files.proofs.laws.no_event_file_is_bad.Goals as goal

pub returns : goal.returns
returns c bytes a n h k = none_refused bytes a n h k

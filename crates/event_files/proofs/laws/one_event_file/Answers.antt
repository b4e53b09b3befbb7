use Rattle.event_files.proofs.BothFormats.{one_event_file}
use Rattle.event_files.proofs.laws.one_event_file.Goals as goal

pub returns : goal.returns
returns c bytes a b h k = one_event_file bytes a b h k

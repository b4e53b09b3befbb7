use Rattle.event_files.proofs.BothFormats.{apart}
use Rattle.event_files.proofs.laws.one_format.Goals as goal

pub returns : goal.returns
returns c bytes a b h k = apart bytes a b h k

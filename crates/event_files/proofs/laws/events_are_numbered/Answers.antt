use Rattle.event_files.proofs.LineNumbers.{recorded_numbers}
use Rattle.event_files.proofs.laws.events_are_numbered.Goals as goal

pub returns : goal.returns
returns c bytes a file = recorded_numbers bytes a file

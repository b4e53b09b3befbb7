use Rattle.event_files.proofs.Histories.{printed_recorded}
use Rattle.event_files.proofs.laws.printed_history_is_read.Goals as goal

pub returns : goal.returns
returns c events h = printed_recorded events h

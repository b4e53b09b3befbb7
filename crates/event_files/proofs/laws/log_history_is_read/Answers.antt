use Rattle.event_files.proofs.Logs.{printed_log}
use Rattle.event_files.proofs.laws.log_history_is_read.Goals as goal

pub returns : goal.returns
returns c log seated h l = printed_log log seated h l

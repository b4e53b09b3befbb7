use Rattle.replay_laws.proofs.Replaying.{logs_replay, runs_replay, runs_replay_to_themselves}
use Rattle.replay_laws.proofs.law.runs_replay.Goals as goal

pub returns-clause-again : goal.returns-clause-again
returns-clause-again c = runs_replay

pub returns-clause-same : goal.returns-clause-same
returns-clause-same c = runs_replay_to_themselves

pub returns-clause-logs : goal.returns-clause-logs
returns-clause-logs c = logs_replay

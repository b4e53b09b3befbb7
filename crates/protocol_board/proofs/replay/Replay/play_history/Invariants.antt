use Rattle.std.proofs.Common.{◌≡◌, take}
use Rattle.protocol_board.specs.Replays.{PlaysHistory, from_first}
use Rattle.protocol_board.proofs.replay.Replay.play_history.Given as goal

-- the events so far were played, from the first on
abbrev pub invariant-loop-said : goal.invariant-loop-said
invariant-loop-said g l = record {
  plays : PlaysHistory g.S.ScriptName.script (take l.said-index l.events) (from_first l.fn.self) l.self;
  counted : l.self.begun ≡ l.said-index;
}

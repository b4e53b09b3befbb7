use Rattle.std.proofs.Common.{◌≡◌, take}
use Rattle.protocol_board.specs.Replays.{Plays, from_first}
use Rattle.protocol_board.proofs.replay.Replay.play.Given as goal

-- the lines so far were played, from line 1 on
abbrev pub invariant-loop-line : goal.invariant-loop-line
invariant-loop-line g l = record {
  plays : Plays g.S.ScriptName.script (take l.line-index l.lines) (from_first l.fn.self) l.self;
  counted : l.self.begun ≡ l.line-index;
}

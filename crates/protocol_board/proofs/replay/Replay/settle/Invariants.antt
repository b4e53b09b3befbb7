use Rattle.std.proofs.Common.{◌≡◌, ℕ, ◌-◌}
use Rattle.protocol_board.specs.Replays.{Settles}
use Rattle.protocol_board.proofs.replay.Replay.settle.Given as goal

-- some turns of the settle rule led here, all for the same line
abbrev pub invariant-loop-event : goal.invariant-loop-event
invariant-loop-event g l = record {
  settles : (n : ℕ) × Settles g.S.ScriptName.script l.but n l.fn.self l.self;
  same : l.self.begun ≡ l.fn.self.begun;
}

abbrev pub decreases-loop-event : goal.decreases-loop-event
decreases-loop-event g l = 100000 - l.self.applied

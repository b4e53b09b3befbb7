use Rattle.std.proofs.Common.{inl, inr}
use Rattle.std.proofs.lemmas.Result.{on_ok_weaker}
use Rattle.run_commands.proofs.replays.play_so_far.Goals as goal

pub returns-in-Ok-clause-played : goal.returns-in-Ok-clause-played
returns-in-Ok-clause-played g c = inl c.in-Ok.ensures.plays

pub returns-in-Err-clause-played : goal.returns-in-Err-clause-played
returns-in-Err-clause-played g c =
    on_ok_weaker c.replay_but_for_memory.result (λ other. inr (c.in-Err.stop, other, c.in-Err.ensures.stops)) c.replay_but_for_memory.ensures.stopped

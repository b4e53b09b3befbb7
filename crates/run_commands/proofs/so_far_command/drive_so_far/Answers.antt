use Rattle.std.proofs.Common.{inl, inr}
use Rattle.std.proofs.lemmas.Result.{on_ok_weaker}
use Rattle.run_commands.proofs.so_far_command.drive_so_far.Goals as goal

pub returns-in-Ok-clause-driven : goal.returns-in-Ok-clause-driven
returns-in-Ok-clause-driven g c = inl c.in-Ok.ensures.ends

pub returns-in-Err-clause-driven : goal.returns-in-Err-clause-driven
returns-in-Err-clause-driven g c =
    on_ok_weaker c.but_for_memory.result (λ other. inr (c.in-Err.refusal, other, c.in-Err.ensures.stops)) c.but_for_memory.ensures.stopped

use Rattle.std.proofs.Common.{◌≡◌, drop}
use Rattle.main_text.specs.Traps.{trap_ended}
use Rattle.main_text.proofs.traps.trap_ended.Given as goal

abbrev pub invariant-loop-entry : goal.invariant-loop-entry
invariant-loop-entry l = trap_ended l.log l.attempt ≡ trap_ended (drop l.entry-index l.log) l.attempt

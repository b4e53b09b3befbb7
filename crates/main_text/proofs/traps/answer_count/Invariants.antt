use Rattle.std.proofs.Common.{◌≡◌, ◌≤◌, ◌+◌, drop}
use Rattle.main_text.specs.Traps.{answer_count}
use Rattle.main_text.proofs.traps.answer_count.Given as goal

abbrev pub invariant-loop-entry : goal.invariant-loop-entry
invariant-loop-entry l = record {
  counted : l.count + answer_count l.attempt (drop l.entry-index l.log) ≡ answer_count l.attempt l.log;
  few : l.count ≤ l.entry-index;
}

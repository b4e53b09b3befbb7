use Rattle.std.proofs.Common.{◌≡◌, ◌+◌, ◌≤◌, drop}
use Rattle.summary_text.specs.Events.{refused_count}
use Rattle.summary_text.proofs.events.refused_count.Given as goal

abbrev pub invariant-loop-place : goal.invariant-loop-place
invariant-loop-place l = record {
  found : l.count + refused_count l.word (drop l.place l.log) ≡ refused_count l.word l.log;
  few : l.count ≤ l.place;
}

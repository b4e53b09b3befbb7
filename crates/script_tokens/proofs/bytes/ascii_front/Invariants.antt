use Rattle.std.proofs.Common.{◌≡◌, ◌≤◌, ◌++◌, ◌-◌, length, take, drop}
use Rattle.script_tokens.specs.Bytes.{is_ascii, front}
use Rattle.script_tokens.proofs.bytes.ascii_front.Given as goal

-- the bytes so far are ASCII
abbrev pub invariant-loop-n : goal.invariant-loop-n
invariant-loop-n l = record {
  within : l.n ≤ length l.text;
  before : take l.n l.text ++ front is_ascii (drop l.n l.text) ≡ front is_ascii l.text;
}

abbrev pub decreases-loop-n : goal.decreases-loop-n
decreases-loop-n l = length l.text - l.n

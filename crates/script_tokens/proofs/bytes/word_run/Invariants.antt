use Rattle.std.proofs.Common.{◌≡◌, ◌≤◌, ◌++◌, ◌-◌, length, take, drop}
use Rattle.script_tokens.specs.Bytes.{in_word}
use Rattle.script_tokens.specs.Bytes.{front, past}
use Rattle.script_tokens.proofs.bytes.word_run.Given as goal

-- the bytes so far belong to the word
abbrev pub invariant-loop-n : goal.invariant-loop-n
invariant-loop-n l = record {
  within : l.n ≤ length l.text;
  word : take l.n l.text ++ front in_word (drop l.n l.text) ≡ front in_word l.text;
  after : past in_word (drop l.n l.text) ≡ past in_word l.text;
}

abbrev pub decreases-loop-n : goal.decreases-loop-n
decreases-loop-n l = length l.text - l.n

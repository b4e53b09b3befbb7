use Rattle.std.proofs.Common.{◌≡◌, ◌+◌, ◌≤◌, ◌++◌, drop}
use Rattle.event_files.specs.Numbering.{line_numbers, numbers_from}
use Rattle.event_files.proofs.numbering.line_numbers.Given as goal

-- the numbers so far with those of the lines that are left; and no line number is beyond its bytes
abbrev pub invariant-loop-byte : goal.invariant-loop-byte
invariant-loop-byte l = record {
  found : l.numbers ++ numbers_from l.number l.begins (drop l.byte-index l.text) ≡ line_numbers l.text;
  counted : l.number ≤ l.byte-index + 1;
}

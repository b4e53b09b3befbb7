use Rattle.std.proofs.Common.{◌≡◌, length}
use Rattle.script_tokens.specs.Lexing.{word_in, reserved_words}
use Rattle.script_tokens.proofs.marks.reserved_word.Given as goal

abbrev pub invariant-loop-rest : goal.invariant-loop-rest
invariant-loop-rest l = word_in l.rest l.word ≡ word_in reserved_words l.word

abbrev pub decreases-loop-rest : goal.decreases-loop-rest
decreases-loop-rest l = length l.rest

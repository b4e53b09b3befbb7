use Rattle.std.proofs.Common.{length}
use Rattle.script_tokens.proofs.Spans.{ReadSoFar}
use Rattle.script_tokens.proofs.reader.lexed.Given as goal

-- the tokens so far are those before the rest
abbrev pub invariant-loop-rest : goal.invariant-loop-rest
invariant-loop-rest l = ReadSoFar l.text l.rest l.tokens.items

abbrev pub decreases-loop-rest : goal.decreases-loop-rest
decreases-loop-rest l = length l.rest

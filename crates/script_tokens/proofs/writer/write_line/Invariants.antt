use Rattle.std.proofs.Common.{drop}
use Rattle.std.specs.Prelude.{string_bytes}
use Rattle.script_tokens.proofs.Spells.{LineSoFar}
use Rattle.script_tokens.proofs.writer.write_line.Given as goal

-- the text so far with the tokens that are left, a space between two
abbrev pub invariant-loop-token : goal.invariant-loop-token
invariant-loop-token l = LineSoFar (string_bytes l.fn.text) (string_bytes l.text) (drop l.token-index l.others) l.tokens

use Rattle.std.proofs.Common.{◌≡◌, ◌+◌, drop}
use Rattle.trap_places.specs.Excerpts.{line_length}
use Rattle.trap_places.proofs.excerpt.line_length.Given as goal

abbrev pub invariant-loop-place : goal.invariant-loop-place
invariant-loop-place l = line_length l.bytes ≡ l.place + line_length (drop l.place l.bytes)

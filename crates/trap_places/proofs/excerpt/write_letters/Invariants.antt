use Rattle.std.proofs.Common.{◌≡◌, ◌++◌, map, drop, string_bytes}
use Rattle.trap_places.specs.Excerpts.{letter}
use Rattle.trap_places.proofs.excerpt.write_letters.Given as goal

abbrev pub invariant-loop-byte : goal.invariant-loop-byte
invariant-loop-byte l = string_bytes l.text ++ map letter (drop l.byte-index l.bytes) ≡ string_bytes l.fn.text ++ map letter l.bytes

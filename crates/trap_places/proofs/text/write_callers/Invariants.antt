use Rattle.std.proofs.Common.{◌≡◌, ◌++◌, drop, string_bytes}
use Rattle.trap_places.specs.Text.{callers_text}
use Rattle.trap_places.proofs.text.write_callers.Given as goal

-- what is still to write
abbrev pub invariant-loop-pc : goal.invariant-loop-pc
invariant-loop-pc l =
    string_bytes l.text ++ callers_text l.script l.places (drop l.pc-index l.callers) ≡ string_bytes l.fn.text ++ callers_text l.script l.places l.callers

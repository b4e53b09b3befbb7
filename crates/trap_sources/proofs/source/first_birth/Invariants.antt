use Rattle.std.proofs.Common.{◌≡◌, drop}
use Rattle.trap_sources.specs.Sources.{base_of}
use Rattle.trap_sources.proofs.source.first_birth.Given as goal

abbrev pub invariant-loop-entry : goal.invariant-loop-entry
invariant-loop-entry l = base_of l.log l.attempt ≡ base_of (drop l.entry-index l.log) l.attempt

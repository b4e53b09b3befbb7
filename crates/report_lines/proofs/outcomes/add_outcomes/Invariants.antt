use Rattle.std.proofs.Common.{◌≡◌, ◌++◌, string_bytes, take}
use Rattle.std.specs.List.{flat_map}
use Rattle.report_lines.specs.Attempts.{attempt_in}
use Rattle.report_lines.specs.Objects.{release_in, resolve_in}
use Rattle.report_lines.proofs.outcomes.add_outcomes.Given as goal

-- each section has the lines of the entries so far
abbrev pub invariant-loop-entry : goal.invariant-loop-entry
invariant-loop-entry l = record {
  attempts : string_bytes l.text ≡ string_bytes l.fn.text ++ flat_map (attempt_in l.log) (take l.entry-index l.log);
  resolves : string_bytes l.resolves ≡ flat_map resolve_in (take l.entry-index l.log);
  releases : string_bytes l.releases ≡ flat_map release_in (take l.entry-index l.log);
}

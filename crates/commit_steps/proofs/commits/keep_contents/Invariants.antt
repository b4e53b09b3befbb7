use Rattle.std.proofs.Common.{◌≡◌, drop}
use Rattle.meaning.specs.Runs.{past}
use Rattle.protocol.specs.Commits.{keeps_contents}
use Rattle.commit_steps.proofs.commits.keep_contents.Given as goal

-- keeping the contents that are left, for the objects behind those so far, ends as keeping all
abbrev pub invariant-loop-i : goal.invariant-loop-i
invariant-loop-i l = keeps_contents l.here (past l.object l.i) l.number (drop l.i l.contents) ≡ keeps_contents l.initial.here l.object l.number l.contents

use Rattle.std.proofs.Common.{◌≡◌, drop}
use Rattle.std.specs.List.{flat_map}
use Rattle.report_text.specs.of_report_lines.Main.{first}
use Rattle.log_words.specs.Tasks.{task_in}
use Rattle.log_words.proofs.tasks.born_with.Given as goal

-- the entries so far don't bear the object
abbrev pub invariant-loop-entry : goal.invariant-loop-entry
invariant-loop-entry l = first (flat_map (task_in l.object) l.log) ≡ first (flat_map (task_in l.object) (drop l.entry-index l.log))

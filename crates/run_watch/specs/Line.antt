-- The line that is told of a run that goes on.
use Rattle.std.specs.Prelude.{ℕ, List, ◌++◌, codes}
use Rattle.std.specs.Fmt.{decimal}
use Rattle.run_watch.specs.declared.counts.RunCounts.{RunCounts}

abbrev pub progress_line : RunCounts → ℕ → List ℕ
progress_line counts seconds =
    decimal counts.events ++ (codes " events, " ++ (decimal counts.results ++ (codes " of " ++ (decimal counts.tasks ++ (codes " tasks done, "
    ++ (decimal seconds ++ codes " s"))))))

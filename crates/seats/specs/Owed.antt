-- What a run owes the jobs that it gave out.
use Rattle.std.specs.Prelude.{◌≡◌, ◌≤◌, ◌⊎◌, ◌||◌, ◌==◌, ℕ, Bool, true, false, List, [], ◌∷◌, length, Option, Some, None}
use Rattle.event_log.specs.Entries.{Entry}
use Rattle.event_log.specs.Events.{claims}
use Rattle.log_entries.specs.declared.refusal.Refusal.{Refusal}
use Rattle.run_paths.specs.Handing.{is_handed_in}
use Rattle.seats.specs.declared.outs.JobOut.{JobOut}

-- the job is one of these
abbrev pub has_job : ℕ → List JobOut → Bool
has_job j [] = false
has_job j (x ∷ out) = (x.job == j) || has_job j out

-- unless the run is given up, each job that was given out is one of these, or was handed in
abbrev pub AreOut : List JobOut → List Entry → Option Refusal → Type 0
AreOut out log None = (j : ℕ) → 1 ≤ j → j ≤ length (claims log) → (has_job j out ≡ true) ⊎ (is_handed_in j log ≡ true)
AreOut out log (Some refusal) = Unit {0}

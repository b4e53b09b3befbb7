-- Counts of two parts of a log add up.
use Rattle.std.proofs.Common.{◌≡◌, ◌+◌, List, [], ◌∷◌, ◌++◌, arith}
use Rattle.event_log.specs.Entries.{Entry}
use Rattle.run_watch.specs.Counts.{events_in, results_in, tasks_in}

pub events_add_up : (front back : List Entry) → events_in (front ++ back) ≡ events_in front + events_in back
events_add_up [] back = omega arith
events_add_up (x ∷ front) back = let h = events_add_up front back in omega (arith, h)

pub tasks_add_up : (front back : List Entry) → tasks_in (front ++ back) ≡ tasks_in front + tasks_in back
tasks_add_up [] back = omega arith
tasks_add_up (x ∷ front) back = let h = tasks_add_up front back in omega (arith, h)

pub results_add_up : (front back : List Entry) → results_in (front ++ back) ≡ results_in front + results_in back
results_add_up [] back = omega arith
results_add_up (x ∷ front) back = let h = results_add_up front back in omega (arith, h)

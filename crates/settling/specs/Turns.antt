-- Where the search for the next event begins.
use Rattle.std.specs.Prelude.{Bool, List, Option, Some, drop, not, ℕ, ◌&&◌, ◌+◌, ◌≡◌}
use Rattle.std.specs.Option.{option_map}
use Rattle.event_log.specs.Entries.{Claim, Commit, Deliver, Event}
use Rattle.protocol.specs.Refusals.{is_ready_on}
use Rattle.protocol.specs.Sets.{has}
use Rattle.protocol.specs.Settling.{first_false, first_job, first_ready, or_event}
use Rattle.protocol.specs.Tables.{Worker}
use Rattle.protocol.specs.Cluster.{ClusterState}

-- the messages before the place were delivered
abbrev pub IsDelivered : ℕ → List Bool → Type 0
IsDelivered from bs = first_false 1 bs ≡ first_false (from + 1) (drop from bs)

-- the next event, where the search for a message begins at the place
abbrev pub next_from : ℕ → ClusterState → List ℕ → Option Event
next_from from c but =
    or_event (option_map (λ k. Deliver k) (first_false (from + 1) (drop from c.delivered)))
    (or_event (option_map (λ j. Commit j) (first_job but 1 c.workers)) (option_map (λ w. Claim w) (first_ready c but 1 c.workers)))

-- the worker of that number is ready and isn't left out
abbrev pub is_next : ClusterState → List ℕ → ℕ → Worker → Bool
is_next c but k x = is_ready_on c k (Some x) && not (has but k)

-- What a log sums up to, of the events that came from one seat.
use Rattle.std.specs.Prelude.{ℕ, ◌+◌, ◌==◌, if◌then◌else◌, List, [], ◌∷◌, ◌++◌, length, map}
use Rattle.std.specs.List.{flat_map}
use Rattle.event_log.specs.Entries.{Event, Entry, In}
use Rattle.event_log.specs.Events.{refused_next, claim_in, commit_in}
use Rattle.event_log.specs.Books.{Totals, sum}

-- the event, if it came from the seat
abbrev pub came_from : ℕ → Entry → List Event
came_from seat (In e s) = if s == seat then e ∷ [] else []
came_from seat _ = []

-- an accepted event, and the seat from which it came
pub record Arrival : Type 0 where
  pub event : Event
  pub seat : ℕ

abbrev pub arrival : Event → ℕ → Arrival
arrival e seat = record { event = e; seat = seat }

-- the accepted events in order
unfoldable pub arrivals : List Entry → List Arrival
arrivals [] = []
arrivals (In e seat ∷ rest) = (if refused_next rest then [] else arrival e seat ∷ []) ++ arrivals rest
arrivals (_ ∷ rest) = arrivals rest

-- the seat of a claim
abbrev pub claim_seat : Arrival → List ℕ
claim_seat a = map (λ w. a.seat) (claim_in a.event)

-- the seats from which the accepted claims came
abbrev pub claim_seats : List Entry → List ℕ
claim_seats log = flat_map claim_seat (arrivals log)

-- claims from these seats give that job number and the next ones: the numbers that they give to the one seat
abbrev pub numbers_to : ℕ → ℕ → List ℕ → List ℕ
numbers_to seat n [] = []
numbers_to seat n (s ∷ seats) = (if s == seat then n ∷ [] else []) ++ numbers_to seat (n + 1) seats

-- the job of a commit, if that came from the seat
abbrev pub commit_from : ℕ → Arrival → List ℕ
commit_from seat a = if a.seat == seat then commit_in a.event else []

-- the jobs of the accepted commits that came from the seat
abbrev pub commits_from : ℕ → List Entry → List ℕ
commits_from seat log = flat_map (commit_from seat) (arrivals log)

-- the totals of a log, counted over the seat's events alone
abbrev pub seat_totals : ℕ → List Entry → Totals
seat_totals seat log =
    record {
      events = length (flat_map (came_from seat) log);
      given = sum (numbers_to seat 1 (claim_seats log));
      commits = length (commits_from seat log);
      committed = sum (commits_from seat log);
    }

-- What a log sums up to.
use Rattle.std.specs.Prelude.{ℕ, ◌+◌, List, [], ◌∷◌, length}
use Rattle.event_log.specs.Entries.{Entry}
use Rattle.event_log.specs.Words.{events}
use Rattle.event_log.specs.Events.{claims, commits}

-- four sums over the events of a log
pub record Totals : Type 0 where
  -- its events, refused ones among them
  pub events : ℕ
  -- the numbers of the jobs that its accepted claims gave
  pub given : ℕ
  -- its accepted commits
  pub commits : ℕ
  -- the numbers of their jobs
  pub committed : ℕ

abbrev pub sum : List ℕ → ℕ
sum [] = 0
sum (n ∷ ns) = n + sum ns

-- the numbers of the jobs that claims give, the first of which gives that number
abbrev pub numbers_from : ℕ → List ℕ → List ℕ
numbers_from n [] = []
numbers_from n (w ∷ ws) = n ∷ numbers_from (n + 1) ws

abbrev pub totals_of : List Entry → Totals
totals_of log =
    record { events = length (events log); given = sum (numbers_from 1 (claims log)); commits = length (commits log); committed = sum (commits log) }

-- Which events were accepted, and what they say of workers, nodes and jobs.
use Rattle.std.specs.Prelude.{ℕ, zero, suc, ◌+◌, Bool, true, false, ◌&&◌, ◌||◌, ◌==◌, if◌then◌else◌, List, [], ◌∷◌, ◌++◌, length, Option, Some, None}
use Rattle.std.specs.Prelude.{slice_get, not, nat_lt}
use Rattle.std.specs.List.{flat_map, list_any}
use Rattle.script_laws.specs.of_meaning.Values.{Id}
use Rattle.script_laws.specs.of_meaning.Births.{same_id}
use Rattle.event_log.specs.Entries.{Event, Claim, Commit, Notice, Lose, Kill, KillNode, Join, Entry, In, Refused}
use Rattle.event_log.specs.Words.{opened}

-- a refusal comes next
abbrev pub refused_next : List Entry → Bool
refused_next (Refused code ∷ rest) = true
refused_next _ = false

-- an event is accepted when no Refused follows its In directly
unfoldable pub accepted_events : List Entry → List Event
accepted_events [] = []
accepted_events (In e seat ∷ rest) = (if refused_next rest then [] else e ∷ []) ++ accepted_events rest
accepted_events (_ ∷ rest) = accepted_events rest

-- the event to which an entry that comes now belongs: the last one, unless it was refused
abbrev pub goes_on : Option Event → Entry → Option Event
goes_on now (In e seat) = Some e
goes_on now (Refused code) = None
goes_on now _ = now

unfoldable pub under_way_from : Option Event → List Entry → Option Event
under_way_from now [] = now
under_way_from now (x ∷ rest) = under_way_from (goes_on now x) rest

abbrev pub under_way : List Entry → Option Event
under_way log = under_way_from None log

-- the last entry is an In
abbrev pub is_in : Entry → Bool
is_in (In e seat) = true
is_in _ = false

unfoldable pub ends_with_in : List Entry → Bool
ends_with_in [] = false
ends_with_in (x ∷ []) = is_in x
ends_with_in (x ∷ y ∷ rest) = ends_with_in (y ∷ rest)

-- ---- jobs

-- the workers of the accepted claims
abbrev pub claim_in : Event → List ℕ
claim_in (Claim w) = w ∷ []
claim_in _ = []

abbrev pub claims : List Entry → List ℕ
claims log = flat_map claim_in (accepted_events log)

abbrev pub from_one : {X : Type 0} → List X → ℕ → Option X
from_one xs zero = None
from_one xs (suc k) = slice_get xs k

-- the worker to which the job was given: accepted claims, counted from 1, give job numbers
abbrev pub worker_of_job : ℕ → List Entry → Option ℕ
worker_of_job j log = from_one (claims log) j

-- the jobs of the accepted commits
abbrev pub commit_in : Event → List ℕ
commit_in (Commit j) = j ∷ []
commit_in _ = []

abbrev pub commits : List Entry → List ℕ
commits log = flat_map commit_in (accepted_events log)

unfoldable pub is_committed : ℕ → List Entry → Bool
is_committed j log = list_any (λ i. i == j) (commits log)

-- the jobs of these claims have that number and the next ones; one of the worker's isn't committed
abbrev pub is_out_from : List Entry → ℕ → ℕ → List ℕ → Bool
is_out_from log w j [] = false
is_out_from log w j (v ∷ vs) = ((v == w) && not (is_committed j log)) || is_out_from log w (j + 1) vs

-- a job that was given to the worker isn't committed
unfoldable pub has_job_out : ℕ → List Entry → Bool
has_job_out w log = is_out_from log w 1 (claims log)

-- ---- nodes and workers

abbrev pub kills_node : ℕ → Event → Bool
kills_node n (KillNode m) = m == n
kills_node n _ = false

unfoldable pub node_is_killed : ℕ → List Entry → Bool
node_is_killed n log = list_any (kills_node n) (accepted_events log)

abbrev pub join_in : Event → List Event
join_in Join = Join ∷ []
join_in _ = []

abbrev pub joins : List Entry → List Event
joins log = flat_map join_in (accepted_events log)

-- beside that many first nodes, and those that joined, the node is there, and was not killed
unfoldable pub node_lives : ℕ → ℕ → List Entry → Bool
node_lives first n log = (nat_lt 0 n && nat_lt n (first + length (joins log) + 1)) && not (node_is_killed n log)

-- the worker's node
abbrev pub node_of : ℕ → List Entry → Option ℕ
node_of w log = from_one (opened log) w

-- a kill of a worker is a kill of it or of its node
abbrev pub kills : ℕ → ℕ → Event → Bool
kills w n (Kill v) = v == w
kills w n (KillNode m) = m == n
kills w n _ = false

abbrev pub on_node : Option ℕ → Bool → (ℕ → Bool) → Bool
on_node None nowhere here = nowhere
on_node (Some n) nowhere here = here n

-- the worker was opened, and a kill of it was accepted
unfoldable pub is_killed : ℕ → List Entry → Bool
is_killed w log = on_node (node_of w log) false (λ n. list_any (kills w n) (accepted_events log))

-- the worker was opened, and no kill of it was accepted
unfoldable pub is_live : ℕ → List Entry → Bool
is_live w log = on_node (node_of w log) false (λ n. not (list_any (kills w n) (accepted_events log)))

-- there is such a worker, and it lives
abbrev pub worker_lives : Option ℕ → List Entry → Bool
worker_lives None log = false
worker_lives (Some w) log = is_live w log

abbrev pub tells : ℕ → ℕ → Event → Bool
tells w v (Notice x y) = (x == w) && (y == v)
tells w v _ = false

-- the worker was told that worker v is dead; a notice of a node tells of no worker
unfoldable pub was_told : ℕ → ℕ → List Entry → Bool
was_told w v log = list_any (tells w v) (accepted_events log)

abbrev pub loses : ℕ → Id → Event → Bool
loses n o (Lose m p) = (m == n) && same_id p o
loses n o _ = false

-- the copies of the object at the node were lost
unfoldable pub was_lost : ℕ → Id → List Entry → Bool
was_lost n o log = list_any (loses n o) (accepted_events log)

-- When something happened last.
use Rattle.std.specs.Prelude.{Bool, List, None, Option, Some, [], false, if◌then◌else◌, ℕ, ◌==◌, ◌∷◌}
use Rattle.meaning.specs.Births.{same_id}
use Rattle.meaning.specs.Values.{Id}
use Rattle.event_log.specs.Entries.{Attempt, Begun, Claim, Commit, Ended, Entry, Faulted, Got, In, KillNode, Released}
use Rattle.event_log.specs.Events.{from_one, refused_next}
use Rattle.event_log.specs.Words.{same_attempt}
use Rattle.protocol_data.specs.declared.job.JobRecord.{JobRecord}
use Rattle.why_text.specs.Moments.{Moment, first_moment, moment_after, when_text}
use Rattle.main_text.specs.declared.happenings.Happening.{Happening}
use Rattle.main_text.specs.declared.happenings.Happening.TheVariants.{Begins, Claims, Commits, Gets, NodeDies, Releases, Stops}

-- the job was given to the worker
abbrev pub is_given_to : ℕ → Option JobRecord → Bool
is_given_to w None = false
is_given_to w (Some g) = g.worker == w

abbrev pub is_beginning : Attempt → Entry → Bool
is_beginning a (Begun b w) = same_attempt b a
is_beginning a _ = false

abbrev pub is_answer : Attempt → Entry → Bool
is_answer a (Got b y c) = same_attempt b a
is_answer a _ = false

abbrev pub is_stop : Attempt → Entry → Bool
is_stop a (Ended b cs) = same_attempt b a
is_stop a (Faulted b y f) = same_attempt b a
is_stop a _ = false

abbrev pub is_release : Id → Entry → Bool
is_release o (Released p) = same_id p o
is_release o _ = false

abbrev pub is_claim : ℕ → Entry → Bool
is_claim w (In (Claim v) seat) = v == w
is_claim w _ = false

abbrev pub is_commit : List JobRecord → ℕ → Entry → Bool
is_commit jobs w (In (Commit j) seat) = is_given_to w (from_one jobs j)
is_commit jobs w _ = false

abbrev pub is_node_death : ℕ → Entry → Bool
is_node_death n (In (KillNode m) seat) = m == n
is_node_death n _ = false

-- it happens with the entry; `jobs` are those that were given out
abbrev pub happens : List JobRecord → Happening → Entry → Bool
happens jobs (Begins a) x = is_beginning a x
happens jobs (Gets a) x = is_answer a x
happens jobs (Stops a) x = is_stop a x
happens jobs (Releases o) x = is_release o x
happens jobs (Claims w) x = is_claim w x
happens jobs (Commits w) x = is_commit jobs w x
happens jobs (NodeDies n) x = is_node_death n x

-- a refused event did nothing
abbrev pub takes_place : List JobRecord → Happening → Entry → Bool → Bool
takes_place jobs h x refused = if refused then false else happens jobs h x

abbrev pub later : Bool → Moment → Option Moment → Option Moment
later happened m last = if happened then Some m else last

-- when it happened last, where `m` is the moment before these entries, and `last` when it did before
abbrev pub latest_from : List JobRecord → List ℕ → Happening → Moment → Option Moment → List Entry → Option Moment
latest_from jobs lines h m last [] = last
latest_from jobs lines h m last (x ∷ rest) =
    latest_from jobs lines h (moment_after lines m x) (later (takes_place jobs h x (refused_next rest)) (moment_after lines m x) last) rest

unfoldable pub latest : List JobRecord → List ℕ → List Entry → Happening → Option Moment
latest jobs lines log h = latest_from jobs lines h first_moment None log

abbrev pub when_some : Option Moment → List ℕ
when_some None = []
when_some (Some m) = when_text m

-- in event 6 (kill 2, line 2)
unfoldable pub when_last : List JobRecord → List ℕ → List Entry → Happening → List ℕ
when_last jobs lines log h = when_some (latest jobs lines log h)

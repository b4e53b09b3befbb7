-- From a trap that was got to the attempt that ended with it.
use Rattle.std.specs.Prelude.{Bool, List, None, Option, Some, [], false, if◌then◌else◌, suc, true, zero, ℕ, ◌&&◌, ◌∷◌}
use Rattle.std.specs.List.{flat_map, list_any}
use Rattle.meaning.specs.Births.{same_id}
use Rattle.meaning.specs.Values.{Id, Outcome, Trapped, Val}
use Rattle.event_log.specs.Entries.{Attempt, Ended, Entry, Got}
use Rattle.event_log.specs.Words.{births, same_attempt}
use Rattle.report_text.specs.of_report_lines.Main.{first}
use Rattle.log_words.specs.Tasks.{task_of}

abbrev pub is_trap : Outcome → Bool
is_trap (Val v) = false
is_trap (Trapped t) = true

abbrev pub trapped_or_none : Id → Outcome → Option Id
trapped_or_none y (Val v) = None
trapped_or_none y (Trapped t) = Some y

-- what the attempt got last, if that was a trap; `last` is so of the entries before
abbrev pub trap_after : Attempt → Option Id → Entry → Option Id
trap_after a last (Got b y c) = if same_attempt b a then trapped_or_none y c else last
trap_after a last _ = last

abbrev pub trap_got_from : Attempt → Option Id → List Entry → Option Id
trap_got_from a last [] = last
trap_got_from a last (x ∷ rest) = trap_got_from a (trap_after a last x) rest

-- the object whose trap the attempt got last
unfoldable pub trap_got : List Entry → Attempt → Option Id
trap_got log a = trap_got_from a None log

-- a trap is the outcome of each result
abbrev pub trapped_in : Id → Entry → List Attempt
trapped_in task (Ended a cs) = if same_id a.object task && list_any is_trap cs then a ∷ [] else []
trapped_in task _ = []

-- the first attempt that ended with a trap, of those that are named by the object
abbrev pub trapped_by : List Entry → Id → Option Attempt
trapped_by log task = first (flat_map (trapped_in task) log)

-- the first attempt of the object's task that ended with a trap
abbrev pub trapped_of : List Entry → Id → Option Attempt
trapped_of log o = trapped_by log (task_of (births log) o)

-- the attempt itself, where it got no trap; else what comes of the object whose trap it got
abbrev pub origin_step : (Id → Option Attempt) → Attempt → Option Id → Option Attempt
origin_step rest a None = Some a
origin_step rest a (Some y) = rest y

abbrev pub origin_from : (Attempt → Option Attempt) → Option Attempt → Option Attempt
origin_from go None = None
origin_from go (Some a) = go a

-- the attempt whose own code trapped, from the object's attempt that ended with a trap on, so many at most
unfoldable pub trap_origin : List Entry → ℕ → Id → Option Attempt
trap_origin log zero o = None
trap_origin log (suc n) o = origin_from (λ a. origin_step (trap_origin log n) a (trap_got log a)) (trapped_of log o)

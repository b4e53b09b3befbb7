-- What is counted of a function.
use Rattle.std.specs.Prelude.{Bool, List, None, Option, Some, [], codes, false, if◌then◌else◌, not, true, ℕ, ◌&&◌, ◌+◌, ◌-◌, ◌==◌, ◌∷◌}
use Rattle.meaning.specs.Births.{Bearing, birth_at}
use Rattle.meaning.specs.Meaning.{same_name}
use Rattle.meaning.specs.Values.{Birth, Id, Name, Put, Task}
use Rattle.event_log.specs.Entries.{Attempt, Begun, Born, Ended, Entry, Faulted, Resolved}
use Rattle.event_log.specs.Words.{attempt, births}
use Rattle.report_text.specs.of_report_lines.Attempts.{state_of}
use Rattle.log_words.specs.Tasks.{task_of}
use Rattle.summary_text.specs.declared.columns.Column.{Column}
use Rattle.summary_text.specs.declared.columns.Column.TheVariants.{AfterDeaths, AfterLosses, Attempts, Faults, GivenUp, Results, Tasks}

abbrev pub is_born_of : Name → Birth → Bool
is_born_of g (Put v) = false
is_born_of g (Task h args depth retries others) = same_name h g

abbrev pub is_of : Name → Option Birth → Bool
is_of g None = false
is_of g (Some b) = is_born_of g b

-- a task of the function has this first object
abbrev pub is_made_by : List Entry → Name → Id → Bool
is_made_by log g o = is_of g (birth_at (births log) o)

abbrev pub or_of_task : List Bearing → Id → Option Birth → Option Birth
or_of_task births o None = birth_at births (task_of births o)
or_of_task births o (Some b) = Some b

-- what makes the object: what was born with it first, else the task of which it is a further result
abbrev pub source_of : List Bearing → Id → Option Birth
source_of births o = or_of_task births o (birth_at births o)

-- a task of the function has the object as a result
abbrev pub is_result_of : List Entry → Name → Id → Bool
is_result_of log g o = is_of g (source_of (births log) o)

-- the report's word for the attempt is `accepted`
abbrev pub was_accepted : List Entry → Attempt → Bool
was_accepted log a = same_name (state_of log a) (codes "accepted")

abbrev pub same_truth : Bool → Bool → Bool
same_truth b c = if b then c else not c

-- the attempt comes behind another of its task, which was accepted, or wasn't
abbrev pub is_behind : List Entry → Attempt → Bool → Bool
is_behind log a accepted = if a.number == 0 then false else same_truth (was_accepted log (attempt a.object (a.number - 1))) accepted

abbrev pub born_in : Name → Entry → Bool
born_in g (Born o a b) = is_born_of g b
born_in g _ = false

abbrev pub begins : List Entry → Name → Entry → Bool
begins log g (Begun a w) = is_made_by log g a.object
begins log g _ = false

abbrev pub is_further : List Entry → Name → Bool → Attempt → Bool
is_further log g accepted a = is_behind log a accepted && is_made_by log g a.object

abbrev pub begins_after : List Entry → Name → Bool → Entry → Bool
begins_after log g accepted (Begun a w) = is_further log g accepted a
begins_after log g accepted _ = false

abbrev pub ends : List Entry → Name → Entry → Bool
ends log g (Ended a cs) = is_made_by log g a.object
ends log g _ = false

abbrev pub faults : List Entry → Name → Entry → Bool
faults log g (Faulted a o f) = is_made_by log g a.object
faults log g _ = false

abbrev pub resolves : List Entry → Name → Entry → Bool
resolves log g (Resolved o f) = is_result_of log g o
resolves log g _ = false

-- the entry counts for the function: an attempt behind one that broke was needed because of a death, and one behind one that was accepted because
-- of a loss
abbrev pub is_counted : List Entry → Column → Name → Entry → Bool
is_counted log Tasks g x = born_in g x
is_counted log Attempts g x = begins log g x
is_counted log AfterDeaths g x = begins_after log g false x
is_counted log AfterLosses g x = begins_after log g true x
is_counted log Results g x = ends log g x
is_counted log Faults g x = faults log g x
is_counted log GivenUp g x = resolves log g x

-- how many entries count
abbrev pub column_count : List Entry → Column → Name → List Entry → ℕ
column_count log column g [] = 0
column_count log column g (x ∷ rest) = (if is_counted log column g x then 1 else 0) + column_count log column g rest

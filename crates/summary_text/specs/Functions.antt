-- The summary's lines of functions: of each how many tasks, attempts and results, and what was given up.
use Rattle.std.specs.Prelude.{Bool, List, Option, Some, [], codes, if◌then◌else◌, length, slice_get, take, true, ℕ, ◌++◌}
use Rattle.std.specs.List.{list_any}
use Rattle.std.specs.Fmt.{decimal}
use Rattle.meaning.specs.Meaning.{same_name}
use Rattle.meaning.specs.Values.{Birth, Name, Put, Task}
use Rattle.event_log.specs.Entries.{Born, Entry}
use Rattle.summary_text.specs.Below.{below}
use Rattle.summary_text.specs.Columns.{born_in, column_count}
use Rattle.summary_text.specs.Counted.{noun}
use Rattle.summary_text.specs.declared.columns.Column.TheVariants.{AfterDeaths, AfterLosses, Attempts, Faults, GivenUp, Results, Tasks}

-- function sq: 3 tasks
unfoldable pub tasks_words : Name → ℕ → List ℕ
tasks_words g tasks =
    codes "function " ++ (g ++ (codes ": " ++ (decimal tasks ++ (codes " " ++ noun tasks (codes "task") (codes "tasks")))))

-- , 4 attempts, 1 for deaths, 0 for losses
unfoldable pub attempts_words : ℕ → ℕ → ℕ → List ℕ
attempts_words attempts deaths losses =
    codes ", "
    ++ (decimal attempts
    ++ (codes " "
    ++ (noun attempts (codes "attempt") (codes "attempts")
    ++ (codes ", " ++ (decimal deaths ++ (codes " for deaths, " ++ (decimal losses ++ codes " for losses")))))))

-- , 3 results, 0 faults, 0 given up
unfoldable pub ends_words : ℕ → ℕ → ℕ → List ℕ
ends_words results faults given_up =
    codes ", "
    ++ (decimal results
    ++ (codes " "
    ++ (noun results (codes "result") (codes "results")
    ++ (codes ", "
    ++ (decimal faults
    ++ (codes " "
    ++ (noun faults (codes "fault") (codes "faults") ++ (codes ", " ++ (decimal given_up ++ codes " given up\n")))))))))

-- a function with so many tasks
unfoldable pub function_line : List Entry → Name → ℕ → List ℕ
function_line log g tasks =
    tasks_words g tasks
    ++ (attempts_words (column_count log Attempts g log) (column_count log AfterDeaths g log) (column_count log AfterLosses g log)
    ++ ends_words (column_count log Results g log) (column_count log Faults g log) (column_count log GivenUp g log))

unfoldable pub born_line : List Entry → Name → List ℕ
born_line log g = function_line log g (column_count log Tasks g log)

-- main, or the function of a task that was born before
unfoldable pub is_known : List Entry → Name → Bool
is_known before g = if same_name g (codes "main") then true else list_any (born_in g) before

abbrev pub birth_line : List Entry → List Entry → Birth → List ℕ
birth_line log before (Put v) = []
birth_line log before (Task g args depth retries others) = if is_known before g then [] else born_line log g

abbrev pub entry_line : List Entry → List Entry → Option Entry → List ℕ
entry_line log before (Some (Born o a b)) = birth_line log before b
entry_line log before _ = []

-- the line of the function that is born first at a place
unfoldable pub function_at : List Entry → ℕ → List ℕ
function_at log place = entry_line log (take place log) (slice_get log place)

abbrev pub others_text : List Entry → List ℕ
others_text log = below (function_at log) (length log)

-- main's, whose task is none that was born, then the others in the order in which their first tasks were born
unfoldable pub functions_text : List Entry → List ℕ
functions_text log = function_line log (codes "main") 1 ++ others_text log

-- The lines of who holds an object and who waits for it.
use Rattle.std.specs.Prelude.{Bool, List, None, Option, Some, [], codes, false, if◌then◌else◌, not, ℕ, ◌&&◌, ◌++◌}
use Rattle.std.specs.List.{flat_map, list_any}
use Rattle.std.specs.Fmt.{decimal}
use Rattle.meaning.specs.Births.{Bearing, birth_at, same_id}
use Rattle.meaning.specs.Values.{Argument, Birth, Id, Name, Put, Task}
use Rattle.ids.specs.Texts.{object_text}
use Rattle.event_log.specs.Entries.{Attempt, Entry}
use Rattle.event_log.specs.Words.{births, same_attempt}
use Rattle.log_text.specs.Attempts.{named_text}
use Rattle.log_words.specs.Ids.{ids_of}
use Rattle.log_words.specs.Tasks.{task_of}
use Rattle.protocol_data.specs.declared.tables.Execution.{Execution}
use Rattle.protocol_data.specs.declared.tables.Worker.{Worker}

abbrev pub has_id : Id → List Id → Bool
has_id o ids = list_any (λ p. same_id p o) ids

-- the object stands in the argument
abbrev pub mentions : Id → Argument → Bool
mentions o a = has_id o (ids_of a.value)

abbrev pub is_argument : Id → List Argument → Bool
is_argument o args = list_any (mentions o) args

unfoldable pub argument_note : Name → List ℕ
argument_note g = codes " as an argument of " ++ (g ++ codes "\n")

-- what isn't in an argument is in a content that the task ended with
abbrev pub way_note : Name → Bool → List ℕ
way_note g in_argument = if in_argument then argument_note g else codes " in its result\n"

-- how a holder that was born so holds the object
abbrev pub holder_note : Id → Option Birth → List ℕ
holder_note o None = codes "\n"
holder_note o (Some (Put v)) = codes " in its value\n"
holder_note o (Some (Task g args depth retries others)) = way_note g (is_argument o args)

abbrev pub or_of_task : List Bearing → Id → Option Birth → Option Birth
or_of_task births o None = birth_at births (task_of births o)
or_of_task births o (Some b) = Some b

-- what makes the object: what was born with it first, else the task of which it is a further result
abbrev pub source_of : List Bearing → Id → Option Birth
source_of births o = or_of_task births o (birth_at births o)

-- o1.1: held by o1.2 as an argument of f
unfoldable pub holder_line : List Entry → Id → Id → List ℕ
holder_line log o e = object_text o ++ (codes ": held by " ++ object_text e) ++ holder_note o (source_of (births log) e)

-- who was removed holds it no more
abbrev pub holder_lines : List Entry → Id → List Id → Id → List ℕ
holder_lines log o removed e = if has_id e removed then [] else holder_line log o e

abbrev pub holders_text : List Entry → Id → List Id → List Id → List ℕ
holders_text log o removed added = flat_map (holder_lines log o removed) added

abbrev pub is_going_on : Option Execution → Attempt → Bool
is_going_on None a = false
is_going_on (Some r) a = same_attempt r.attempt a && not r.is_over

unfoldable pub frame_head : Id → List ℕ
frame_head o = object_text o ++ codes ": held by the frame of "

-- o1.1: held by the frame of a1.0#0 (main)
abbrev pub frame_text : List Entry → Id → Attempt → List ℕ
frame_text log o a = frame_head o ++ (named_text (births log) a ++ codes "\n")

abbrev pub frame_line : List Entry → Worker → Id → Attempt → List ℕ
frame_line log x o a = if is_going_on x.run a then frame_text log o a else []

-- o1.1: w3 waits for it
unfoldable pub asker_line : Id → ℕ → List ℕ
asker_line o w = object_text o ++ (codes ": w" ++ (decimal w ++ codes " waits for it\n"))

abbrev pub askers_text : Id → List ℕ → List ℕ
askers_text o ws = flat_map (asker_line o) ws

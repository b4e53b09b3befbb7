-- What had an object, and which of that went with its owner; `before` are the entries up to then, `lines` are those of their events, and `births` are
-- those of the whole log.
use Rattle.std.specs.Prelude.{ℕ, Bool, true, false, not, ◌&&◌, ◌==◌, if◌then◌else◌, List, [], ◌∷◌, Option, Some, None}
use Rattle.std.specs.List.{filter, flat_map, list_any}
use Rattle.meaning.specs.Values.{Id}
use Rattle.meaning.specs.Births.{Bearing, same_id}
use Rattle.event_log.specs.Entries.{Attempt, FaultKind, OwnerDied, Fault, Kill, KillNode, Entry, In, Born, Ended, Released}
use Rattle.event_log.specs.Words.{opened, same_attempt}
use Rattle.event_log.specs.Events.{from_one, refused_next}
use Rattle.report_text.specs.of_report_lines.Main.{first}
use Rattle.log_words.specs.of_made_objects.Made.{objects_made}
use Rattle.log_text.specs.Mentions.{is_among, is_in_birth}
use Rattle.why_text.specs.Moments.{Moment, first_moment, moment_after}
use Rattle.why_text.specs.Results.{is_in_result, is_small_result, objects_of}
use Rattle.why_text.specs.Runs.{is_node}

-- the event kills the worker, or its node
unfoldable pub is_death : ℕ → Option ℕ → Entry → Bool
is_death w n (In (Kill v) seat) = v == w
is_death w n (In (KillNode m) seat) = is_node m n
is_death w n _ = false

-- when the worker died, where `m` is the moment before the entries
abbrev pub death_from : List ℕ → Moment → ℕ → Option ℕ → List Entry → Option Moment
death_from lines m w n [] = None
death_from lines m w n (x ∷ rest) =
    if is_death w n x && not (refused_next rest) then Some (moment_after lines m x) else death_from lines (moment_after lines m x) w n rest

unfoldable pub death_of : List ℕ → List Entry → ℕ → Option Moment
death_of lines before w = death_from lines first_moment w (from_one (opened before) w) before

-- the objects that have the other by the entry: in their put value, in their arguments, or in the content that an attempt ended with for them
unfoldable pub holders_in : List Bearing → Id → Entry → List Id
holders_in births o (Born e a b) = if is_in_birth o b then objects_made e b else []
holders_in births o (Ended a cs) = filter (is_in_result o a cs) (objects_of births a)
holders_in births o _ = []

unfoldable pub is_release_of : Id → Entry → Bool
is_release_of o (Released p) = same_id p o
is_release_of o _ = false

abbrev pub is_released_in : Id → List Entry → Bool
is_released_in o before = list_any (is_release_of o) before

abbrev pub is_found : Option Moment → Bool
is_found None = false
is_found (Some m) = true

-- the object's owner died, and had not released it
unfoldable pub is_gone : List ℕ → List Entry → Id → Bool
is_gone lines before e = if is_released_in e before then false else is_found (death_of lines before e.owner)

abbrev pub gone_in : List Bearing → List ℕ → List Entry → Id → Entry → List Id
gone_in births lines before o x = filter (is_gone lines before) (holders_in births o x)

-- the first object that had the other and went with its owner
unfoldable pub gone_holder : List Bearing → List ℕ → List Entry → Id → Option Id
gone_holder births lines before o = first (flat_map (gone_in births lines before o) before)

abbrev pub is_had_in : List Bearing → Id → Id → Entry → Bool
is_had_in births e o x = is_among e (holders_in births o x)

-- the first object had the second
abbrev pub has : List Bearing → List Entry → Id → Id → Bool
has births before e o = list_any (is_had_in births e o) before

abbrev pub is_owner_died : FaultKind → Bool
is_owner_died OwnerDied = true
is_owner_died _ = false

-- the object was released, and the fault began in one that had it, whose owner died
unfoldable pub is_from_above : List Bearing → List Entry → Id → Fault → Bool
is_from_above births before y f =
    if is_owner_died f.kind then (if is_released_in y before then has births before f.object y else false) else false

-- the attempt ended with a small content of the object: its owner keeps that once it accepts the end, and no store has it
unfoldable pub is_small_end : Attempt → Id → Entry → Bool
is_small_end a o (Ended b cs) = same_attempt b a && is_small_result a cs o
is_small_end a o _ = false

abbrev pub is_kept : List Entry → Attempt → Id → Bool
is_kept before a o = list_any (is_small_end a o) before

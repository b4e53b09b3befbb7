-- What is told beside a release, a fault and an end that was accepted.
use Rattle.std.specs.Prelude.{ℕ, nat_lt, if◌then◌else◌, List, [], ◌∷◌, ◌++◌, codes, length, Option, Some, None}
use Rattle.std.specs.List.{filter}
use Rattle.std.specs.Fmt.{decimal}
use Rattle.report.specs.ValueTexts.{id_text}
use Rattle.meaning.specs.Values.{Id}
use Rattle.meaning.specs.Births.{Bearing}
use Rattle.event_log.specs.Entries.{Attempt, Fault, Entry}
use Rattle.log_words.specs.Tasks.{listed_text}
use Rattle.why_text.specs.Moments.{Moment, when_text}
use Rattle.why_text.specs.Holders.{death_of, gone_holder, is_from_above, is_kept}
use Rattle.why_text.specs.Results.{objects_of}

-- the worker that owns the object
unfoldable pub owner_text : Id → List ℕ
owner_text o = codes "w" ++ decimal o.owner

unfoldable pub death_head : Id → List ℕ
death_head e = codes ", since w" ++ (decimal e.owner ++ (codes ", the owner of " ++ (id_text e ++ codes ", which had it, died")))

-- , since w2, the owner of o2.1, which had it, died in event 11 (kill 2, line 4)
abbrev pub death_text : Id → Option Moment → List ℕ
death_text e None = []
death_text e (Some m) = death_head e ++ when_text m

unfoldable pub death_note : List ℕ → List Entry → Id → List ℕ
death_note lines before e = death_text e (death_of lines before e.owner)

abbrev pub holder_note : List ℕ → List Entry → Option Id → List ℕ
holder_note lines before None = []
holder_note lines before (Some e) = death_note lines before e

-- why nothing needs the object any more, where what had it went with its owner
unfoldable pub release_note : List Bearing → List ℕ → List Entry → Id → List ℕ
release_note births lines before o = holder_note lines before (gone_holder births lines before o)

-- ; o3.1, which o2.1 had, was released
unfoldable pub above_note : Id → Id → List ℕ
above_note y e = codes "; " ++ (id_text y ++ (codes ", which " ++ (id_text e ++ codes " had, was released")))

-- why the fault of one object answers a get of another
unfoldable pub fault_note : List Bearing → List Entry → Id → Fault → List ℕ
fault_note births before y f = if is_from_above births before y f then above_note y f.object else []

-- , and keeps o1.2, o1.3 itself, which no node can lose
unfoldable pub several_kept : List Id → List ℕ
several_kept kept = codes ", and keeps " ++ (listed_text kept ++ codes " itself, which no node can lose")

-- those of a task's objects that are kept
abbrev pub kept_text : List Id → List Id → List ℕ
kept_text objects [] = []
kept_text objects (o ∷ os) =
    if nat_lt 1 (length objects) then several_kept (o ∷ os) else codes ", and keeps the result itself: no node can lose it"

-- a small result is in no store
unfoldable pub kept_note : List Bearing → List Entry → Attempt → List ℕ
kept_note births before a = kept_text (objects_of births a) (filter (is_kept before a) (objects_of births a))

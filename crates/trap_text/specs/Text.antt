-- In which place of the script a trap comes about.
use Rattle.std.specs.Prelude.{◌≡◌, ℕ, List, [], ◌++◌, codes, None, Option, Some}
use Rattle.meaning.specs.Syntax.{Script}
use Rattle.meaning.specs.Values.{Id}
use Rattle.script_tokens.specs.declared.token.Span.{Span}
use Rattle.event_log.specs.Entries.{Attempt, Entry, main_object}
use Rattle.frames.specs.OwnTraps.{FindsTrap}
use Rattle.spots.specs.declared.spot.Spot.{Spot}
use Rattle.main_text.specs.Traps.{own_text}
use Rattle.trap_sources.specs.Sources.{Source, trap_source}
use Rattle.trap_places.specs.Text.{spot_text}
use Rattle.trap_text.specs.declared.text.TrapAsked.{TrapAsked}
use Rattle.trap_text.specs.declared.text.TrapAsked.TheVariants.{Of, OfMain}

abbrev pub object_of : TrapAsked → Id
object_of OfMain = main_object
object_of (Of o) = o

-- whose own code trapped, where that doesn't stand above: behind an object's account
abbrev pub lead : TrapAsked → List Entry → Attempt → List ℕ
lead OfMain log a = []
lead (Of o) log a = codes "\n" ++ own_text log a

-- what is told of the spot, if there is one
abbrev pub place_text : List ℕ → List Span → List ℕ → Option Spot → List ℕ
place_text text places before None = []
place_text text places before (Some s) = before ++ spot_text text places s

-- the attempt's run on what it was answered has that spot where it traps of its own, and this is told of it
abbrev pub IsPlaceTold : Script → List ℕ → List Span → List Entry → TrapAsked → Option Source → List ℕ → Type 0
IsPlaceTold script text places log asked None told = told ≡ []
IsPlaceTold script text places log asked (Some s) told =
    (spot : Option Spot) × FindsTrap script s.spec s.base s.answers spot × (told ≡ place_text text places (lead asked log s.attempt) spot)

-- what is told of the trap with which main ended, or an attempt of an object; the script has that text, and its instructions were made of those places
abbrev pub IsTrapTold : Script → List ℕ → List Span → List Entry → TrapAsked → List ℕ → Type 0
IsTrapTold script text places log asked told = IsPlaceTold script text places log asked (trap_source log (object_of asked)) told

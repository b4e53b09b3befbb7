-- What is told of a trap's place: line and column, what stands and works there, and the calls that wait.
use Rattle.std.specs.Prelude.{ℕ, ◌-◌, if◌then◌else◌, List, [], ◌∷◌, ◌++◌, codes, length, nat_eq, Option, Some, None, slice_get, take}
use Rattle.std.specs.Fmt.{decimal}
use Rattle.script_tokens.specs.declared.token.Span.{Span}
use Rattle.raysim_explain.specs.Places.{place_in}
use Rattle.raysim_explain.specs.declared.place.Place.{Place}
use Rattle.spots.specs.declared.spot.Spot.{Spot}
use Rattle.trap_places.specs.Excerpts.{excerpt, bytes_of}
use Rattle.trap_places.specs.Operands.{operands_text}

-- 3:14
abbrev pub at_text : Place → List ℕ
at_text p = decimal p.line ++ (codes ":" ++ decimal p.column)

-- 3:14, in `a * b`
abbrev pub span_text : List ℕ → Span → List ℕ
span_text script s = at_text (place_in script s.start) ++ (codes ", in `" ++ (excerpt (bytes_of script s) ++ codes "`"))

-- where an instruction stands, between two texts; nothing where it has no place
abbrev pub place_text : List ℕ → List ℕ → Option Span → List ℕ → List ℕ
place_text script before None behind = []
place_text script before (Some s) behind = before ++ (span_text script s ++ behind)

-- called at 9:3, in `product(a, b)`.
abbrev pub caller_text : List ℕ → List Span → ℕ → List ℕ
caller_text script places pc = place_text script (codes "called at ") (slice_get places pc) (codes ".\n")

abbrev pub callers_text : List ℕ → List Span → List ℕ → List ℕ
callers_text script places [] = []
callers_text script places (pc ∷ pcs) = caller_text script places pc ++ callers_text script places pcs

-- .. and 12 more calls
abbrev pub others_text : ℕ → List ℕ
others_text count = if nat_eq count 0 then []
    else if nat_eq count 1 then codes ".. and 1 more call\n" else codes ".. and " ++ (decimal count ++ codes " more calls\n")

-- the calls that wait, 8 at most, the innermost first, and how many others
unfoldable pub waiting_text : List ℕ → List Span → List ℕ → List ℕ
waiting_text script places callers = callers_text script places (take 8 callers) ++ others_text (length callers - 8)

-- what is told of the instruction, behind its place
abbrev pub worked_text : Spot → List ℕ
worked_text spot = operands_text spot.left spot.right ++ codes ".\n"

-- At 3:14, in `a * b`: 9223372036854775807 and 2.
abbrev pub spot_text : List ℕ → List Span → Spot → List ℕ
spot_text script places spot =
    place_text script (codes "At ") (slice_get places spot.pc) (worked_text spot) ++ waiting_text script places spot.callers.items

-- What an instruction works on.
use Rattle.std.specs.Prelude.{List, [], ℕ, ◌++◌, codes, Option, Some, None}
use Rattle.std.specs.Fmt.{decimal, signed_decimal}
use Rattle.spots.specs.declared.spot.Shown.{Shown}
use Rattle.spots.specs.declared.spot.Shown.TheVariants as shown

-- a number, of a list how long it is, and of a reference that it is one
abbrev pub shown_text : Shown → List ℕ
shown_text (shown.Number n) = signed_decimal n
shown_text (shown.List count) = codes "a list of length " ++ decimal count
shown_text shown.Reference = codes "a reference"

-- the second of two operands
abbrev pub second_text : Option Shown → List ℕ
second_text None = []
second_text (Some right) = codes " and " ++ shown_text right

-- the operands, behind a colon where there are any
abbrev pub operands_text : Option Shown → Option Shown → List ℕ
operands_text None right = []
operands_text (Some left) right = codes ": " ++ (shown_text left ++ second_text right)

-- Lines and columns of a text.
use Rattle.std.specs.Prelude.{ℕ, List, ◌+◌, fold, take, nat_eq, suc, if◌then◌else◌}
use Rattle.raysim_explain.specs.declared.place.Place.{Place}

-- the place behind a byte: a line feed ends its line
abbrev pub behind : Place → ℕ → Place
behind p b =
    if nat_eq b 10 then record { line = suc p.line; column = 1; start = p.start + p.column } else record p { column = suc p.column }

abbrev pub first_place : Place
first_place = record { line = 1; column = 1; start = 0 }

-- the place of the byte `at`, or of the text's end where that comes first
abbrev pub place_in : List ℕ → ℕ → Place
place_in text at = fold behind first_place (take at text)

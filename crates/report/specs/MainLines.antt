-- The lines of what main printed, and of its end.
use Rattle.std.specs.Prelude.{List, [], ◌∷◌, ℕ, ◌++◌, codes}
use Rattle.values.specs.of_meaning.Values.{Value, Trap, Overflow, DivZero, Index, TooLong, Loop, TooDeep, Broken, Outcome, Val, Trapped}
use Rattle.report.specs.ValueTexts.{value_text}

-- no checked script has the last
abbrev pub trap_name : Trap → List ℕ
trap_name Overflow = codes "Overflow"
trap_name DivZero = codes "DivZero"
trap_name Index = codes "Index"
trap_name TooLong = codes "TooLong"
trap_name Loop = codes "Loop"
trap_name TooDeep = codes "TooDeep"
trap_name Broken = codes "Broken"

-- print V, a line for each
abbrev pub print_lines : List Value → List ℕ
print_lines [] = []
print_lines (v ∷ vs) = codes "print " ++ (value_text v ++ (codes "\n" ++ print_lines vs))

-- main value V, or main trap T
abbrev pub end_line : Outcome → List ℕ
end_line (Val v) = codes "main value " ++ (value_text v ++ codes "\n")
end_line (Trapped t) = codes "main trap " ++ (trap_name t ++ codes "\n")

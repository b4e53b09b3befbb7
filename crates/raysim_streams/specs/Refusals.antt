-- The number of each refusal of a command, and its line on standard error.
use Rattle.std.specs.Prelude.{ℕ, List, ◌++◌, codes}
use Rattle.std.specs.Fmt.{decimal}
use Rattle.raysim_streams.specs.declared.refusal.CommandRefusal.{CommandRefusal}
use Rattle.raysim_streams.specs.declared.refusal.CommandRefusal.TheVariants.{At, NoMemory, Stopped, BadLine, WrongJob, Failed}

abbrev pub refusal_number : CommandRefusal → ℕ
refusal_number (At code span) = code
refusal_number NoMemory = 39
refusal_number (Stopped code) = code
refusal_number (BadLine line) = 40
refusal_number (WrongJob line) = 42
refusal_number (Failed failure) = 50

abbrev pub refusal_text : CommandRefusal → List ℕ
refusal_text (At code span) = codes "refused " ++ (decimal code ++ (codes " at " ++ (decimal span.start ++ (codes ".." ++ decimal span.end))))
refusal_text NoMemory = codes "refused 39"
refusal_text (Stopped code) = codes "refused " ++ decimal code
refusal_text (BadLine line) = codes "refused 40 line " ++ decimal line
refusal_text (WrongJob line) = codes "refused 42 line " ++ decimal line
refusal_text (Failed failure) = codes "refused 50"

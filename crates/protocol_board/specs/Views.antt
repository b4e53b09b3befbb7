-- What the code's replays, and runs that are driven, stand for.
use Rattle.std.specs.Prelude.{ℕ, List, [], ◌∷◌, ◌++◌, length}
use Rattle.protocol_core.specs.States.{RunState}
use Rattle.protocol_board.specs.Replays.{Play}
use Rattle.protocol_board.specs.Drives.{Course}

-- behind an event, how many messages were sent and its line
abbrev pub noted : Play → Play
noted r = record r { sent = r.sent ++ length r.run.whole.network ∷ []; lines = r.lines ++ r.begun ∷ [] }

-- the run of the code, and behind each event how many messages had been sent
abbrev pub course_of : RunState → List ℕ → Course
course_of r sent = record { run = r; sent = sent }

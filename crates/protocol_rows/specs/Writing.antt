-- Short words in which the worked runs are written.
use Rattle.std.specs.Prelude.{List, Option, false, pos, true, ℕ}
use Rattle.meaning.specs.Values.{Argument, Birth, Id, Int, Items, Named, Outcome, Value, values_of}
use Rattle.event_log.specs.Entries.{Attempt}
use Rattle.event_log.specs.Words.{attempt}
use Rattle.protocol.specs.Jobs.{Job, Outcomes, Stopped}
use Rattle.protocol.specs.Messages.{EndedResult}
use Rattle.protocol.specs.Sets.{object_id, repeated}

-- a number that isn't negative
abbrev pub int : ℕ → Value
int n = Int (pos n)

-- the list of these
abbrev pub items : List Value → Value
items vs = Items (values_of vs)

-- nine times the same
abbrev pub nine : Value → Value
nine v = items (repeated 9 v)

-- an argument as it is
abbrev pub given : Value → Argument
given v = record { value = v; marked = false }

-- an argument that the task's worker dereferences
abbrev pub dereferenced : Id → Argument
dereferenced o = record { value = Named o; marked = true }

-- what was done on a job
abbrev pub done : List Birth → List Value → Stopped → Outcomes
done births prints stop = record { births = births; prints = prints; stop = stop }

-- what the owner is told of a result: the ids in its content, and the content if it is small
abbrev pub told : List Id → Option Outcome → EndedResult
told ids kept = record { ids = ids; kept = kept }

-- a job that was given out
abbrev pub job : ℕ → Attempt → Birth → Id → List Birth → List Value → List Outcome → Job
job number a spec base births prints answers =
    record { number = number; attempt = a; spec = spec; base = base; births = births; prints = prints; answers = answers }

-- ---- objects, by owner and serial, and attempts, by their object and number

abbrev pub o1_1 : Id
o1_1 = object_id 1 1

abbrev pub o1_2 : Id
o1_2 = object_id 1 2

abbrev pub o1_3 : Id
o1_3 = object_id 1 3

abbrev pub o1_4 : Id
o1_4 = object_id 1 4

abbrev pub o1_5 : Id
o1_5 = object_id 1 5

abbrev pub o2_1 : Id
o2_1 = object_id 2 1

abbrev pub o3_1 : Id
o3_1 = object_id 3 1

abbrev pub o4_1 : Id
o4_1 = object_id 4 1

abbrev pub o5_1 : Id
o5_1 = object_id 5 1

abbrev pub o6_1 : Id
o6_1 = object_id 6 1

abbrev pub a1_0_0 : Attempt
a1_0_0 = attempt (object_id 1 0) 0

abbrev pub a1_1_0 : Attempt
a1_1_0 = attempt (object_id 1 1) 0

abbrev pub a1_1_1 : Attempt
a1_1_1 = attempt (object_id 1 1) 1

abbrev pub a1_2_0 : Attempt
a1_2_0 = attempt (object_id 1 2) 0

abbrev pub a1_2_1 : Attempt
a1_2_1 = attempt (object_id 1 2) 1

abbrev pub a1_3_0 : Attempt
a1_3_0 = attempt (object_id 1 3) 0

abbrev pub a1_3_1 : Attempt
a1_3_1 = attempt (object_id 1 3) 1

abbrev pub a1_4_0 : Attempt
a1_4_0 = attempt (object_id 1 4) 0

abbrev pub a1_5_0 : Attempt
a1_5_0 = attempt (object_id 1 5) 0

abbrev pub a2_1_0 : Attempt
a2_1_0 = attempt (object_id 2 1) 0

abbrev pub a3_1_0 : Attempt
a3_1_0 = attempt (object_id 3 1) 0

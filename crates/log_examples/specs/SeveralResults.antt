-- A task of two results: a run that bears one, and what logs with one say. These logs need be none of a script; what is said of
-- them was worked out by hand from the rules.
use Rattle.std.specs.Prelude.{ℕ, List, [], ◌∷◌, ◌++◌, codes}
use Rattle.meaning.specs.Values.{Value, Items, Named, Outcome, Val, Broken, Birth, Put, Task, Id, Completion, Returned, Aborted, values_of}
use Rattle.meaning.specs.Syntax.{Number}
use Rattle.meaning.specs.Runs.{Run, Ends, Bears, Gets}
use Rattle.meaning.specs.Births.{Bearing, Part}
use Rattle.meaning.specs.Examples.{value, object}
use Rattle.event_log.specs.Entries.{RetriesUsed, Fault, Claim, Commit, Deliver, Lose, Entry, In, Refused, Opened, Begun, Born, Got, Ended, Accepted}
use Rattle.event_log.specs.Entries.{Resolved, Released, NoCopy, main_attempt}
use Rattle.event_log.specs.Legal.{opening}
use Rattle.log_examples.specs.Logs.{first_of, number, given}
use Rattle.log_examples.specs.FaultLogs.{read}

-- ---- a run

-- a task of parts(17, 5), which has two results, and no run after the first
abbrev pub dividing_apart : Birth
dividing_apart = Task (codes "parts") (given (number 17) ∷ given (number 5) ∷ []) 1 0 1

-- return v, w;
abbrev pub giving : Value → Value → Completion
giving v w = Returned (v ∷ w ∷ [])

abbrev pub aborts : Run
aborts = Ends (Aborted Broken)

-- with r the reference that a put has: return v, get r;
abbrev pub behind_the_put : Value → List Value → Run
behind_the_put v [] = aborts
behind_the_put v (r ∷ rs) = Gets Number r (λ w. Ends (giving v w))

-- let p = put 6; return v, get p;
abbrev pub putting : Value → Run
putting v = Bears (Put (number 6)) (Ends (Returned (number 6 ∷ []))) (behind_the_put v)

-- with two references, the second is got
abbrev pub getting_the_second : List Value → Run
getting_the_second [] = aborts
getting_the_second (q ∷ []) = aborts
getting_the_second (q ∷ r ∷ rs) = Gets Number r putting

-- let q, r = remote parts(17, 5); let v = get r; let p = put 6; return v, get p;
abbrev pub asking : Completion → Run
asking e = Bears dividing_apart (Ends e) getting_the_second

-- ---- births

abbrev pub birth_of_two : Bearing
birth_of_two = record { object = object 1 1; birth = dividing_apart }

abbrev pub birth_of_six : Bearing
birth_of_six = record { object = object 1 3; birth = Put (number 6) }

abbrev pub part_in : Bearing → ℕ → Part
part_in x k = record { born = x; place = k }

-- ---- a log of it

-- up to the end of the call: it has one loss of the second object, where the worker has nothing yet
abbrev pub until_the_end : List Entry
until_the_end =
    opening
    ++ In (Claim 1) 0
    ∷ In (Commit 1) 0
    ∷ Born (object 1 1) main_attempt dividing_apart
    ∷ In (Deliver 1) 0
    ∷ Opened 2 2
    ∷ In (Deliver 2) 0
    ∷ Begun (first_of (object 1 1)) 2
    ∷ In (Deliver 3) 0
    ∷ In (Lose 2 (object 1 2)) 0
    ∷ In (Claim 2) 0
    ∷ In (Commit 2) 0
    ∷ Ended (first_of (object 1 1)) (value 3 ∷ value 2 ∷ [])
    ∷ []

-- main gets the second result, and puts a value
abbrev pub got_and_put : List Entry
got_and_put =
    In (Deliver 4) 0
    ∷ Accepted (first_of (object 1 1))
    ∷ Got main_attempt (object 1 2) (value 2)
    ∷ In (Claim 1) 0
    ∷ In (Commit 3) 0
    ∷ Born (object 1 3) main_attempt (Put (number 6))
    ∷ []

abbrev pub two_log : List Entry
two_log = until_the_end ++ got_and_put

-- losses of another object, at another node, and refused; then of the second and of the first object, at places 24 and 25
abbrev pub losses : List Entry
losses =
    In (Lose 2 (object 1 3)) 0
    ∷ In (Lose 1 (object 1 2)) 0
    ∷ In (Lose 2 (object 1 2)) 0
    ∷ Refused NoCopy
    ∷ In (Lose 2 (object 1 2)) 0
    ∷ In (Lose 2 (object 1 1)) 0
    ∷ []

abbrev pub lost_log : List Entry
lost_log = two_log ++ losses

abbrev pub all_used : Id → Fault
all_used o = record { kind = RetriesUsed; object = o }

-- the first object alone is resolved
abbrev pub one_resolved : List Entry
one_resolved = lost_log ++ Resolved (object 1 1) (all_used (object 1 1)) ∷ []

abbrev pub both_resolved : List Entry
both_resolved = one_resolved ++ Resolved (object 1 2) (all_used (object 1 2)) ∷ []

-- ---- a log of contents that have references

-- a task of pair with the first object, which it reads: fn pair(x: int) -> ([ref int], ref int) { return [put x], put 2; }
abbrev pub pairing : Birth
pairing = Task (codes "pair") (read (Named (object 1 1)) ∷ []) 1 0 1

abbrev pub birth_of_pair : Bearing
birth_of_pair = record { object = object 1 2; birth = pairing }

abbrev pub references : List Outcome
references = Val (Items (values_of (Named (object 2 1) ∷ []))) ∷ Val (Named (object 2 2)) ∷ []

-- main is over, and so is the call
abbrev pub pair_log : List Entry
pair_log =
    opening
    ++ In (Claim 1) 0
    ∷ In (Commit 1) 0
    ∷ Born (object 1 1) main_attempt (Put (number 6))
    ∷ Born (object 1 2) main_attempt pairing
    ∷ Ended main_attempt (value 0 ∷ [])
    ∷ In (Deliver 1) 0
    ∷ Opened 2 1
    ∷ In (Deliver 2) 0
    ∷ Begun (first_of (object 1 2)) 2
    ∷ In (Deliver 3) 0
    ∷ In (Deliver 4) 0
    ∷ In (Deliver 5) 0
    ∷ Got (first_of (object 1 2)) (object 1 1) (value 6)
    ∷ In (Claim 2) 0
    ∷ In (Commit 2) 0
    ∷ Born (object 2 1) (first_of (object 1 2)) (Put (number 6))
    ∷ Born (object 2 2) (first_of (object 1 2)) (Put (number 2))
    ∷ Ended (first_of (object 1 2)) references
    ∷ In (Deliver 6) 0
    ∷ Accepted (first_of (object 1 2))
    ∷ []

-- of the call's objects the first alone is released
abbrev pub one_released : List Entry
one_released = pair_log ++ Released (object 1 2) ∷ []

abbrev pub both_released : List Entry
both_released = one_released ++ Released (object 1 3) ∷ []

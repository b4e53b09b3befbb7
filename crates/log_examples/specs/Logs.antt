-- Worked logs, written from the rules.
use Rattle.std.specs.Prelude.{ℕ, zero, suc, List, [], ◌∷◌, ◌++◌, pos, codes, false, slice_get, Option, None}
use Rattle.meaning.specs.Values.{Value, Int, Named, Trapped, DivZero, Argument, Birth, Put, Task, Id}
use Rattle.meaning.specs.Syntax.{Script}
use Rattle.meaning.specs.Examples.{value, object, squaring, square, trap_not_got, reference_passed}
use Rattle.event_log.specs.Entries.{Attempt, Claim, Commit, Deliver, Entry, In, Opened, Begun, Born, Got, Printed, Ended, Accepted, Released, main_attempt}
use Rattle.event_log.specs.Words.{attempt}
use Rattle.event_log.specs.Rules.{Receiver, ToWorker, ToNode, Setting}
use Rattle.event_log.specs.Legal.{opening}

-- ---- short forms

-- to whom the messages go, by number from 1 on
abbrev pub receiver_in : List Receiver → ℕ → Option Receiver
receiver_in rs zero = None
receiver_in rs (suc k) = slice_get rs k

-- one node, and these receivers
abbrev pub beside : Script → List Receiver → Setting
beside script rs = record { script = script; nodes = 1; receiver = receiver_in rs }

abbrev pub node : Receiver
node = ToNode 1

abbrev pub worker : ℕ → Receiver
worker w = ToWorker w

-- the first attempt of an object
abbrev pub first_of : Id → Attempt
first_of o = attempt o 0

abbrev pub number : ℕ → Value
number n = Int (pos n)

abbrev pub given : Value → Argument
given v = record { value = v; marked = false }

-- ---- a square

-- let r = remote sq(7); print get r; return 0;
abbrev pub square_setting : Setting
square_setting = beside square (node ∷ worker 1 ∷ worker 2 ∷ worker 1 ∷ worker 2 ∷ node ∷ [])

abbrev pub square_rest : List Entry
square_rest =
    In (Claim 1) 0
    ∷ In (Commit 1) 0
    ∷ Born (object 1 1) main_attempt squaring
    -- the request for a worker, the answer, and the task
    ∷ In (Deliver 1) 0
    ∷ Opened 2 1
    ∷ In (Deliver 2) 0
    ∷ Begun (first_of (object 1 1)) 2
    ∷ In (Deliver 3) 0
    ∷ In (Claim 2) 0
    ∷ In (Commit 2) 0
    ∷ Ended (first_of (object 1 1)) (value 49 ∷ [])
    -- the owner hears of the end, and main waits for it
    ∷ In (Deliver 4) 0
    ∷ Accepted (first_of (object 1 1))
    ∷ Got main_attempt (object 1 1) (value 49)
    ∷ In (Deliver 5) 0
    ∷ In (Deliver 6) 0
    ∷ In (Claim 1) 0
    ∷ In (Commit 3) 0
    ∷ Printed (number 49)
    ∷ Ended main_attempt (value 0 ∷ [])
    ∷ Released (object 1 1)
    ∷ []

abbrev pub square_log : List Entry
square_log = opening ++ square_rest

-- ---- a trap that nobody gets

abbrev pub dividing : Birth
dividing = Task (codes "div") (given (number 1) ∷ given (number 0) ∷ []) 1 3 0

-- let r = remote div(1, 0); return 5;
abbrev pub trap_setting : Setting
trap_setting = beside trap_not_got (node ∷ worker 1 ∷ worker 2 ∷ worker 1 ∷ worker 2 ∷ node ∷ node ∷ [])

abbrev pub trap_rest : List Entry
trap_rest =
    In (Claim 1) 0
    ∷ In (Commit 1) 0
    ∷ Born (object 1 1) main_attempt dividing
    ∷ Ended main_attempt (value 5 ∷ [])
    ∷ In (Deliver 1) 0
    ∷ Opened 2 1
    ∷ In (Deliver 2) 0
    ∷ Begun (first_of (object 1 1)) 2
    ∷ In (Deliver 3) 0
    ∷ In (Claim 2) 0
    ∷ In (Commit 2) 0
    ∷ Ended (first_of (object 1 1)) (Trapped DivZero ∷ [])
    ∷ In (Deliver 4) 0
    ∷ Accepted (first_of (object 1 1))
    ∷ Released (object 1 1)
    ∷ In (Deliver 5) 0
    ∷ In (Deliver 6) 0
    ∷ In (Deliver 7) 0
    ∷ []

abbrev pub trap_log : List Entry
trap_log = opening ++ trap_rest

-- ---- a reference that is passed on

abbrev pub calling_mid : Birth
calling_mid = Task (codes "mid") (given (Named (object 1 1)) ∷ []) 1 3 0

abbrev pub calling_add : Birth
calling_add = Task (codes "add") (given (Named (object 1 1)) ∷ []) 2 3 0

-- let p = put 6; let m = remote mid(p); return get m;
abbrev pub passing_setting : Setting
passing_setting = beside reference_passed (node ∷ worker 1 ∷ worker 2 ∷ worker 1 ∷ node ∷ worker 2 ∷ worker 3 ∷ worker 1 ∷ worker 3
    ∷ worker 2 ∷ worker 3 ∷ [])

abbrev pub passing_rest : List Entry
passing_rest =
    In (Claim 1) 0
    ∷ In (Commit 1) 0
    ∷ Born (object 1 1) main_attempt (Put (number 6))
    ∷ Born (object 1 2) main_attempt calling_mid
    ∷ In (Deliver 1) 0
    ∷ Opened 2 1
    ∷ In (Deliver 2) 0
    ∷ Begun (first_of (object 1 2)) 2
    ∷ In (Deliver 3) 0
    ∷ In (Claim 2) 0
    -- the fourth message, which says that the reference is held, stays under way
    ∷ In (Commit 2) 0
    ∷ Born (object 2 1) (first_of (object 1 2)) calling_add
    ∷ Ended (first_of (object 1 2)) (value 0 ∷ [])
    ∷ In (Deliver 5) 0
    ∷ Opened 3 1
    ∷ In (Deliver 6) 0
    ∷ Begun (first_of (object 2 1)) 3
    ∷ In (Deliver 7) 0
    ∷ In (Claim 3) 0
    ∷ In (Commit 3) 0
    -- where the object is, and its answer
    ∷ In (Deliver 8) 0
    ∷ In (Deliver 9) 0
    ∷ Got (first_of (object 2 1)) (object 1 1) (value 6)
    ∷ In (Claim 3) 0
    ∷ In (Commit 4) 0
    ∷ Ended (first_of (object 2 1)) (value 7 ∷ [])
    ∷ In (Deliver 10) 0
    ∷ Accepted (first_of (object 2 1))
    ∷ []

abbrev pub passing_log : List Entry
passing_log = opening ++ passing_rest

-- Logs with one wrong entry.
use Rattle.std.specs.Prelude.{List, [], ◌∷◌, ◌++◌, take, codes}
use Rattle.meaning.specs.Values.{Put}
use Rattle.meaning.specs.Syntax.{Script, Add, Var, Binary, PutOf, GetOf, Number, Let}
use Rattle.meaning.specs.Examples.{give, value, object, squaring, square, script_of, add, mid, remote}
use Rattle.meaning.specs.Examples as made
use Rattle.event_log.specs.Entries.{OwnerDied, PutLost, Fault, Claim, Commit, Deliver, Tick, Notice, Lose, Kill, Entry, In, Refused, Opened, Begun}
use Rattle.event_log.specs.Entries.{Born, Got, Printed, Ended, Accepted, Faulted, Resolved, Released, main_object, main_attempt}
use Rattle.event_log.specs.Entries.{Pinned, NoWorker, NotReady}
use Rattle.event_log.specs.Words.{attempt}
use Rattle.event_log.specs.Rules.{Setting}
use Rattle.event_log.specs.Legal.{Legal, opening}
use Rattle.log_examples.specs.FaultLogs.{retried_rest, used_up, owner_died_rest}
use Rattle.log_examples.specs.ReleaseLogs.{releasing_rest}
use Rattle.log_examples.specs.Logs.{beside, node, worker, first_of, number, calling_mid, square_rest}

-- not legal
abbrev pub IsWrong : Setting → List Entry → Type 0
IsWrong s rest = Legal s (opening ++ rest) → ⊥

-- let p = put 1; let q = put 2; return get p + get q;
abbrev pub two_puts : Script
two_puts =
    script_of []
    (Let (codes "p") (PutOf (made.number 1))
    ∷ Let (codes "q") (PutOf (made.number 2))
    ∷ give (Binary Add (GetOf Number (Var (codes "p"))) (GetOf Number (Var (codes "q")))) ∷ [])

-- a get with another object's content
abbrev pub wrong_content : List Entry
wrong_content =
    In (Claim 1) 0
    ∷ In (Commit 1) 0
    ∷ Born (object 1 1) main_attempt (Put (number 1))
    ∷ Born (object 1 2) main_attempt (Put (number 2))
    ∷ Got main_attempt (object 1 1) (value 2)
    ∷ []

-- a second attempt while the first is whole
abbrev pub begun_again : List Entry
begun_again = take 7 square_rest ++ (In (Tick 1) 0 ∷ Begun (attempt (object 1 1) 1) 2 ∷ [])

abbrev pub accepted_twice : List Entry
accepted_twice = take 13 square_rest ++ (Accepted (first_of (object 1 1)) ∷ [])

-- let p = put 6; let m = remote mid(p); return 0;
abbrev pub passed_not_got : Script
passed_not_got =
    script_of (add ∷ mid ∷ [])
    (Let (codes "p") (PutOf (made.number 6)) ∷ Let (codes "m") (remote (codes "mid") (Var (codes "p") ∷ [])) ∷ give (made.number 0) ∷ [])

abbrev pub passed_setting : Setting
passed_setting = beside passed_not_got (node ∷ worker 1 ∷ worker 2 ∷ [])

-- an object is released that stands in the arguments of a running attempt
abbrev pub released_while_held : List Entry
released_while_held =
    In (Claim 1) 0
    ∷ In (Commit 1) 0
    ∷ Born (object 1 1) main_attempt (Put (number 6))
    ∷ Born (object 1 2) main_attempt calling_mid
    ∷ Ended main_attempt (value 0 ∷ [])
    ∷ In (Deliver 1) 0
    ∷ Opened 2 1
    ∷ In (Deliver 2) 0
    ∷ Begun (first_of (object 1 2)) 2
    ∷ Released (object 1 1)
    ∷ []

-- an object is released before the one that has it in its arguments
abbrev pub released_out_of_order : List Entry
released_out_of_order = take 47 releasing_rest ++ (Released (object 1 1) ∷ [])

-- an owner is said to have died that lives
abbrev pub fault_without_cause : List Entry
fault_without_cause = take 3 square_rest ++ (In (Tick 1) 0 ∷ Faulted main_attempt (object 1 1) (record { kind = OwnerDied; object = object 1 1 }) ∷ [])

abbrev pub print_after_end : List Entry
print_after_end = take 20 square_rest ++ (Printed (number 49) ∷ [])

abbrev pub skipped_serial : List Entry
skipped_serial = In (Claim 1) 0 ∷ In (Commit 1) 0 ∷ Born (object 1 2) main_attempt squaring ∷ []

-- the outcome of a dead worker's job
abbrev pub end_of_the_dead : List Entry
end_of_the_dead = take 9 square_rest ++ (In (Kill 2) 0 ∷ In (Commit 2) 0 ∷ Ended (first_of (object 1 1)) (value 49 ∷ []) ∷ [])

-- a worker is told of the death of one that lives
abbrev pub notice_of_the_living : List Entry
notice_of_the_living = take 5 square_rest ++ (In (Notice 1 2) 0 ∷ In (Claim 1) 0 ∷ [])

-- an entry behind a refusal
abbrev pub entry_of_a_refused_event : List Entry
entry_of_a_refused_event = In (Claim 2) 0 ∷ Refused NoWorker ∷ Opened 2 1 ∷ []

-- a commit that leaves out what its attempt bears
abbrev pub half_a_commit : List Entry
half_a_commit = In (Claim 1) 0 ∷ In (Commit 1) 0 ∷ []

abbrev pub two_puts_setting : Setting
two_puts_setting = beside two_puts []

-- a worker is killed that was never opened
abbrev pub kill_of_nobody : List Entry
kill_of_nobody = In (Kill 2) 0 ∷ In (Claim 1) 0 ∷ []

-- a message is delivered that was never sent
abbrev pub delivery_of_nothing : List Entry
delivery_of_nothing = In (Deliver 99) 0 ∷ In (Claim 1) 0 ∷ []

-- a worker is opened as a message reaches a dead one
abbrev pub opened_by_the_dead : List Entry
opened_by_the_dead = In (Kill 1) 0 ∷ In (Deliver 2) 0 ∷ Opened 2 1 ∷ []

-- a put is said to be lost, but the loss stands before its birth
abbrev pub lost_before_its_birth : List Entry
lost_before_its_birth =
    In (Lose 1 (object 1 1)) 0
    ∷ In (Claim 1) 0
    ∷ In (Commit 1) 0
    ∷ Born (object 1 1) main_attempt (Put (number 1))
    ∷ Born (object 1 2) main_attempt (Put (number 2))
    ∷ Resolved (object 1 1) (record { kind = PutLost; object = object 1 1 })
    ∷ []

-- all runs are said to be used up after the first of two breaks
abbrev pub used_up_too_soon : List Entry
used_up_too_soon = take 10 retried_rest ++ (Resolved (object 1 1) (used_up (object 1 1)) ∷ [])

-- a get is answered with a copy that remains, though the worker was told that the owner is dead
abbrev pub got_from_the_dead : List Entry
got_from_the_dead = take 33 owner_died_rest ++ (Got main_attempt (object 2 1) (value 4) ∷ [])

abbrev pub owner_died : Fault
owner_died = record { kind = OwnerDied; object = object 1 1 }

abbrev pub lost_put : Fault
lost_put = record { kind = PutLost; object = object 1 1 }

-- main's own object is said to have no content
abbrev pub main_resolved : List Entry
main_resolved =
    In (Claim 1) 0
    ∷ In (Commit 1) 0
    ∷ Born (object 1 1) main_attempt (Put (number 1))
    ∷ Born (object 1 2) main_attempt (Put (number 2))
    ∷ In (Lose 1 (object 1 1)) 0
    ∷ In (Tick 1) 0
    ∷ Resolved main_object lost_put
    ∷ []

-- main's own end is accepted
abbrev pub main_accepted : List Entry
main_accepted = take 20 square_rest ++ (Accepted main_attempt ∷ [])

-- main is given out while a job of it is out
abbrev pub given_out_twice : List Entry
given_out_twice = In (Claim 1) 0 ∷ In (Claim 1) 0 ∷ In (Commit 2) 0 ∷ []

-- an event is refused with a number that is none of a claim's
abbrev pub refused_for_nothing : List Entry
refused_for_nothing = In (Claim 1) 0 ∷ Refused Pinned ∷ In (Tick 1) 0 ∷ []

-- the claim of a worker that was never opened is refused as if it weren't ready
abbrev pub refused_for_less : List Entry
refused_for_less = In (Claim 2) 0 ∷ Refused NotReady ∷ []

-- main has a fault, and its cause stands behind it
abbrev pub cause_comes_later : List Entry
cause_comes_later =
    In (Claim 1) 0
    ∷ In (Commit 1) 0
    ∷ Born (object 1 1) main_attempt (Put (number 1))
    ∷ Born (object 1 2) main_attempt (Put (number 2))
    ∷ Faulted main_attempt (object 1 1) owner_died
    ∷ In (Kill 1) 0
    ∷ []
